-- The second engine (document 02, L7): what it keeps of the operations so far, where the edges of an operation come from, and what it changes.
use Rattle.std.specs.Prelude.{ℕ, suc, ◌+◌, ◌*◌, List, [], ◌∷◌, map, get_or, set, replicate}
use Rattle.record.specs.declared.Event.{Event}
use Rattle.record.specs.declared.Op.{Op}
use Rattle.record.specs.declared.Op.TheVariants.{Read, Write, Acquire, Release, Prewait, Postwait, Notify, Fork, Join, Yield}
use Rattle.second.specs.declared.Cells.{Cells}
use Rattle.lists.specs.Lists.{below}
use Rattle.ancestors.specs.Others.{others}

-- Cells: for each lock, thread and variable, and for each variable and thread, 0, or a transaction and 1
abbrev pub cells_of : List ℕ → List ℕ → List ℕ → List ℕ → Cells
cells_of locks threads writers readers = record { locks = locks; threads = threads; writers = writers; readers = readers }

-- nothing has been done
unfoldable pub idle : Cells
idle = cells_of (replicate 32 0) (replicate 16 0) (replicate 256 0) (replicate 4096 0)

-- One cell
pub data Key : Type 0 where
  -- the last operation of a lock
  lock : ℕ → Key
  -- the last operation of a thread, or its fork where it has done nothing
  thread : ℕ → Key
  -- the last write of a variable
  writer : ℕ → Key
  -- the last read of a variable by a thread
  reader : ℕ → ℕ → Key

-- what a cell holds; past the end 0
abbrev pub cell : Cells → Key → ℕ
cell s (Key.lock m) = get_or s.locks m 0
cell s (Key.thread t) = get_or s.threads t 0
cell s (Key.writer x) = get_or s.writers x 0
cell s (Key.reader x t) = get_or s.readers (x * 16 + t) 0

-- with another number in a cell; past the end nothing changes
abbrev pub put : Cells → Key → ℕ → Cells
put s (Key.lock m) v = cells_of (set s.locks m v) s.threads s.writers s.readers
put s (Key.thread t) v = cells_of s.locks (set s.threads t v) s.writers s.readers
put s (Key.writer x) v = cells_of s.locks s.threads (set s.writers x v) s.readers
put s (Key.reader x t) v = cells_of s.locks s.threads s.writers (set s.readers (x * 16 + t) v)

abbrev pub put_all : Cells → List Key → ℕ → Cells
put_all s [] v = s
put_all s (k ∷ ks) v = put_all (put s k v) ks v

-- the readers of a variable, in every thread
abbrev pub readers_of : ℕ → List Key
readers_of x = map (Key.reader x) (below 16)

-- The cells that an operation asks, besides its own thread's: whose transactions have an edge to that of the operation
unfoldable pub asked : Op → List Key
asked (Read x v) = Key.writer x ∷ []
asked (Write x v) = Key.writer x ∷ readers_of x
asked (Acquire m) = Key.lock m ∷ []
asked (Release m) = Key.lock m ∷ []
asked (Prewait m) = Key.lock m ∷ []
asked (Postwait m) = Key.lock m ∷ []
asked (Notify m) = Key.lock m ∷ []
asked (Fork u) = []
asked (Join u) = Key.thread u ∷ []
asked Yield = []

abbrev pub asks : Event → List Key
asks e = Key.thread e.thread ∷ asked e.op

-- The cells that hold its transaction from then on, besides its own thread's
unfoldable pub left : ℕ → Op → List Key
left t (Read x v) = Key.reader x t ∷ []
left t (Write x v) = Key.writer x ∷ []
left t (Acquire m) = Key.lock m ∷ []
left t (Release m) = Key.lock m ∷ []
left t (Prewait m) = Key.lock m ∷ []
left t (Postwait m) = Key.lock m ∷ []
left t (Notify m) = Key.lock m ∷ []
left t (Fork u) = Key.thread u ∷ []
left t (Join u) = []
left t Yield = []

abbrev pub leaves : Event → List Key
leaves e = Key.thread e.thread ∷ left e.thread e.op

-- The sources of an event of transaction a: where the edges come from that it makes
unfoldable pub sources : Cells → ℕ → Event → List ℕ
sources s a e = others a (map (cell s) (asks e))

-- the cells after an event of transaction a
unfoldable pub stored : Cells → ℕ → Event → Cells
stored s a e = put_all s (leaves e) (suc a)

-- Everything above, opened at once, for a proof by computation: `unfolding opened`
unfoldable pub opened : Unit {0}
unfolding idle asked left others sources stored
opened = tt
