-- Laws of the text: how long a line is, the next line of a loop, and the text by the rows as the text by the edges.
use Prim.Native.Nat.{ℕ, ◌+◌, ◌-◌, ◌<◌, ◌≤◌}
use native.Mathlib.Omega.{arith}
use mathlib.Core.Path.{◌≡◌, refl, sym, ap, ap₂, ◌∙◌}
use mathlib.Core.Bool.{true, false}
use mathlib.Core.List.{List, [], ◌∷◌, ◌++◌}
use lib.ListN.{length, length-append}
use Rattle.lists.specs.Lists.{keep, each, from, below}
use Rattle.trace.specs.Paths.{Edge, has_edge}
use Rattle.lists.proofs.Tests.{by}
use Rattle.lists.proofs.Lists.{Among, keep-true, keep-false, keep_same, below-bound, from_step, from-none, each-each, each_map}
use Rattle.rows.specs.Bits.{has}
use Rattle.decimal.specs.Decimal.{decimal}
use Rattle.decimal.proofs.Decimals.{size-three}
use Rattle.picture.specs.Picture.{opening, arrow, line_end, closing, transaction_line, edge, edge_line, edges_from, edges_in_order, drawing}
use Rattle.picture.specs.Putting.{link_line, row_lines, text_of}

-- ---- How long a line is

pub transaction-size : (a : ℕ) → a < 512 → length (transaction_line a) ≤ 5
unfolding transaction_line
transaction-size a h = omega (arith, length-append (decimal a) line_end, size-three a (omega arith))

pub edge-size : (a b : ℕ) → a < 512 → b < 512 → length (edge_line (edge a b)) ≤ 12
unfolding edge_line
edge-size a b h k =
    omega (arith, length-append (decimal a) (arrow ++ (decimal b ++ line_end)), length-append (decimal b) line_end, size-three a (omega arith), size-three b (omega arith))

-- ---- The next line

each_next : (f : ℕ → List ℕ) (n a : ℕ) → a < n → each f (from a (n - a)) ≡ f a ++ each f (from (a + 1) (n - (a + 1)))
unfolding each
each_next f n a h = ap (each f) (from_step a n h)

pub transactions-next : (n a : ℕ) → a < n → each transaction_line (from a (n - a)) ≡ transaction_line a ++ each transaction_line (from (a + 1) (n - (a + 1)))
transactions-next = each_next transaction_line

pub rows_next : (work : List ℕ) (n a : ℕ) → a < n → each (row_lines work n) (from a (n - a)) ≡ row_lines work n a ++ each (row_lines work n) (from (a + 1) (n - (a + 1)))
rows_next work n = each_next (row_lines work n) n

pub none-next : (f : ℕ → List ℕ) (n a : ℕ) → n ≤ a → each f (from a (n - a)) ≡ []
unfolding each
none-next f n a h = ap (each f) (from-none a n h)

-- the lines of row a from column b on
abbrev pub row_from : List ℕ → ℕ → ℕ → ℕ → List ℕ
row_from work n a b = each (λ c. edge_line (edge a c)) (keep (has work a) (from b (n - b)))

pub row-whole : (work : List ℕ) (n a : ℕ) → row_lines work n a ≡ row_from work n a 0
unfolding row_lines
row-whole work n a = let z : n ≡ n - 0 = omega arith in ap (λ k. each (λ c. edge_line (edge a c)) (keep (has work a) (from 0 k))) z

pub below-whole : (f : ℕ → List ℕ) (n : ℕ) → each f (below n) ≡ each f (from 0 (n - 0))
below-whole f n = let z : n ≡ n - 0 = omega arith in ap (λ k. each f (from 0 k)) z

pub link-some : (work : List ℕ) (a b : ℕ) → has work a b ≡ true → link_line work a b ≡ edge_line (edge a b)
unfolding link_line
link-some work a b e = rw (e, link_line)

pub link-none : (work : List ℕ) (a b : ℕ) → has work a b ≡ false → link_line work a b ≡ []
unfolding link_line
link-none work a b e = rw (e, link_line)

pub row_next : (work : List ℕ) (n a b : ℕ) → b < n → row_from work n a b ≡ link_line work a b ++ row_from work n a (b + 1)
unfolding each
row_next work n a b h =
    let line : ℕ → List ℕ = λ c. edge_line (edge a c) in
    let rest : List ℕ = from (b + 1) (n - (b + 1)) in
    ap (λ l. each line (keep (has work a) l)) (from_step b n h)
    ∙ by (has work a b)
    (λ e. ap (each line) (keep-true (has work a) b rest e) ∙ ap (λ l. l ++ each line (keep (has work a) rest)) (sym (link-some work a b e)))
    (λ e. ap (each line) (keep-false (has work a) b rest e) ∙ ap (λ l. l ++ each line (keep (has work a) rest)) (sym (link-none work a b e)))

pub row-end : (work : List ℕ) (n a b : ℕ) → n ≤ b → row_from work n a b ≡ []
unfolding each keep
row-end work n a b h = ap (λ l. each (λ c. edge_line (edge a c)) (keep (has work a) l)) (from-none b n h)

-- ---- The text by the edges

each_same : {A B : Type 0} (f g : A → List B) (l : List A) → ((x : A) → Among x l → f x ≡ g x) → each f l ≡ each g l
unfolding each
each_same f g [] h = refl
each_same f g (x ∷ l) h = ap₂ (λ u v. u ++ v) (h x Among.top) (each_same f g l (λ y i. h y (Among.deeper i)))

module _ (work : List ℕ) (n : ℕ) (g : List Edge) (few : n ≤ 512) (is : (a b : ℕ) → a < 512 → b < 512 → has work a b ≡ has_edge g a b) where
  row_is : (a : ℕ) → a < n → row_lines work n a ≡ each edge_line (edges_from n g a)
  unfolding row_lines edges_from
  row_is a h =
      ap (each (λ b. edge_line (edge a b))) (keep_same (has work a) (has_edge g a) (below n) (λ b i. is a b (omega arith) (omega (arith, below-bound n b i))))
      ∙ sym (each_map edge_line (edge a) (keep (has_edge g a) (below n)))

  pub text-is : text_of work n ≡ drawing n g
  unfolding text_of drawing edges_in_order
  text-is =
      ap (λ l. opening ++ (each transaction_line (below n) ++ (l ++ closing)))
      (each_same (row_lines work n) (λ a. each edge_line (edges_from n g a)) (below n) (λ a i. row_is a (below-bound n a i)) ∙ each-each edge_line (edges_from n g) (below n))
