-- What document 02, L4, demands of the written form holds; and the first 32,768 bytes of a long text, with the line feeds of the rest, tell its answer.
use Prim.Native.Nat.{ℕ, ◌+◌, ◌≤◌}
use native.Mathlib.Omega.{arith}
use mathlib.Core.Path.{◌≡◌, sym, ap, ◌∙◌}
use mathlib.Core.List.{List, ◌++◌}
use lib.ListN.{length}
use lib.Seq.{take-append_seam}
use Rattle.text.specs.File.{feeds, read_text}
use Rattle.text.specs.Meaning.{Right, LongText}
use Rattle.text.proofs.Lines as Lines
use Rattle.text.proofs.Files as Files
use Rattle.text.proofs.Endings.{over-feeds}
use Rattle.text.proofs.Cuts.{cut-same}

pub right : Right
right =
    record {
      one_line = Lines.one_line;
      read-written = Lines.read-written;
      written_read = Lines.written_read;
      write-then-read = Files.write-then-read;
      read-then-write = Files.read-then-write;
    }

-- as the program reads: an output of 8,192 bytes has room for every text with at most 1,024 line feeds
pub long-text : (first rest out : List ℕ) → 32768 ≤ length first → 8192 ≤ length out → LongText first rest out
long-text first rest out long room =
    let all : feeds (first ++ rest) ≡ feeds first + feeds rest = Files.feeds-both first rest in
    record {
      over = λ h. Files.read-size (first ++ rest) out 2 (over-feeds (first ++ rest) out (omega arith)) (omega arith);
      within = λ h. sym (cut-same (length first) (first ++ rest) out (omega arith) (omega arith) (omega arith))
          ∙ ap (λ t. read_text t out) (take-append_seam first rest);
    }
