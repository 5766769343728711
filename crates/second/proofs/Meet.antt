-- Conflict by cells: an event that asks a cell where an earlier one left its transaction conflicts with it. And of two events that conflict the later
-- asks a cell where the earlier left its transaction, if a thread does nothing before its fork or after its join.
use Prim.Native.Nat.{ℕ}
use mathlib.Core.Path.{◌≡◌, sym, ap, ◌∙◌, subst}
use mathlib.Core.Bool.{not, ◌&&◌, ◌||◌}
use borrow.Author.Tests.{eq-eqb}
use lib.Dec.{T, eqb, leb, eqb→eq, eqb_refl}
use Rattle.record.specs.declared.Event.{Event}
use Rattle.record.specs.declared.Op.{Op}
use Rattle.record.specs.Record.{kind, target}
use Rattle.lists.proofs.Tests.{by, T_of, or_cases, or_left, or_right, and_left, and_right, and_both}
use Rattle.graph.specs.Conflict.{accesses, writes, locks, forks, joins, conflict, same_thread, same_variable, same_lock, governs, same_child}
use Rattle.graph.proofs.Apart.{Apart, apart}
use Rattle.second.specs.Cells.{Key}
use Rattle.second.proofs.Keys.{inside, leaves_at, asks_at}
use Rattle.second.proofs.Orderly.{ranged, Fits, of-thread, of-target, of-variable, of-lock, of-child}

-- a cell where x left its transaction and that y asks
pub record Meeting (x y : Event) : Type 0 where
  pub key : Key
  pub there : T (inside key)
  pub left : T (leaves_at x key)
  pub asked : T (asks_at y key)

pub eq-T : {m n : ℕ} → m ≡ n → T (eqb m n)
eq-T {m} {n} e = T_of (eq-eqb m n e)

-- two numbers that are equal to a third
by-third : (u m n : ℕ) → T (eqb u m) → T (eqb u n) → m ≡ n
by-third u m n p q = sym (eqb→eq u m p) ∙ eqb→eq u n q

pub writes-accesses : (o : Op) → T (writes o) → T (accesses o)
unfolding writes accesses
writes-accesses o t = subst (λ k. T (leb k 2)) (sym (eqb→eq (kind o) 2 t)) tt

-- ---- from cells to conflict

module _ (x y : Event) where
  abbrev X : Op
  X = x.op

  abbrev Y : Op
  Y = y.op

  not-apart : (k : Key) → T (leaves_at x k) → T (asks_at y k) → Apart x y → ⊥
  not-apart (Key.lock m) l a d = d.locking (and_left (locks X) (eqb m (target X)) l) (and_left (locks Y) (eqb m (target Y)) a)
      (by-third m (target X) (target Y) (and_right (locks X) (eqb m (target X)) l) (and_right (locks Y) (eqb m (target Y)) a))
  not-apart (Key.thread u) l a d = or_cases (eqb u x.thread) (forks X && eqb u (target X)) l
      (λ p. or_cases (eqb u y.thread) (joins Y && eqb u (target Y)) a
      (λ q. d.threads (by-third u x.thread y.thread p q))
      (λ q. d.governing (or_right (forks Y) (joins Y) (and_left (joins Y) (eqb u (target Y)) q)) (by-third u (target Y) x.thread (and_right (joins Y) (eqb u (target Y)) q) p)))
      (λ p. let f : T (forks X) = and_left (forks X) (eqb u (target X)) p in
      let e : T (eqb u (target X)) = and_right (forks X) (eqb u (target X)) p in
      or_cases (eqb u y.thread) (joins Y && eqb u (target Y)) a
      (λ q. d.governed (or_left (forks X) (joins X) f) (by-third u (target X) y.thread e q))
      (λ q. d.fork-join f (and_left (joins Y) (eqb u (target Y)) q) (by-third u (target X) (target Y) e (and_right (joins Y) (eqb u (target Y)) q))))
  not-apart (Key.writer v) l a d =
      let w : T (writes X) = and_left (writes X) (eqb v (target X)) l in
      d.variables (writes-accesses X w) (and_left (accesses Y) (eqb v (target Y)) a) (or_left (writes X) (writes Y) w)
      (by-third v (target X) (target Y) (and_right (writes X) (eqb v (target X)) l) (and_right (accesses Y) (eqb v (target Y)) a))
  not-apart (Key.reader v u) l a d =
      let r : T (accesses X && not (writes X)) = and_left (accesses X && not (writes X)) (eqb v (target X) && eqb u x.thread) l in
      let e : T (eqb v (target X)) = and_left (eqb v (target X)) (eqb u x.thread) (and_right (accesses X && not (writes X)) (eqb v (target X) && eqb u x.thread) l) in
      let w : T (writes Y) = and_left (writes Y) (eqb v (target Y) && leb u 15) a in
      let f : T (eqb v (target Y)) = and_left (eqb v (target Y)) (leb u 15) (and_right (writes Y) (eqb v (target Y) && leb u 15) a) in
      d.variables (and_left (accesses X) (not (writes X)) r) (writes-accesses Y w) (or_right (writes X) (writes Y) w) (by-third v (target X) (target Y) e f)

  -- An event that asks a cell where an earlier one left its transaction conflicts with it
  pub cells-conflict : (k : Key) → T (leaves_at x k) → T (asks_at y k) → T (conflict x y)
  cells-conflict k l a = by (conflict x y) (λ e. T_of e) (λ e. absurd (not-apart k l a (apart x y (T_of (ap not e)))))

  -- ---- and back

  own : T (ranged x) → x.thread ≡ y.thread → Meeting x y
  own r e = record {
    key = Key.thread x.thread;
    there = of-thread x r;
    left = or_left (eqb x.thread x.thread) (forks X && eqb x.thread (target X)) (eqb_refl x.thread);
    asked = or_left (eqb x.thread y.thread) (joins Y && eqb x.thread (target Y)) (eq-T e);
  }

  meet-variable : T (ranged x) → T (same_variable x y) → Meeting x y
  unfolding same_variable
  meet-variable r t =
      let three : T (accesses X && accesses Y && (writes X || writes Y)) = and_left (accesses X && accesses Y && (writes X || writes Y)) (eqb (target X) (target Y)) t in
      let e : T (eqb (target X) (target Y)) = and_right (accesses X && accesses Y && (writes X || writes Y)) (eqb (target X) (target Y)) t in
      let two : T (accesses X && accesses Y) = and_left (accesses X && accesses Y) (writes X || writes Y) three in
      let a : T (accesses X) = and_left (accesses X) (accesses Y) two in
      let b : T (accesses Y) = and_right (accesses X) (accesses Y) two in
      let i : T (leb (target X) 255) = of-variable X a (of-target x r) in
      by (writes X)
      (λ w. record {
        key = Key.writer (target X);
        there = i;
        left = and_both (writes X) (eqb (target X) (target X)) (T_of w) (eqb_refl (target X));
        asked = and_both (accesses Y) (eqb (target X) (target Y)) b e;
      })
      (λ w. record {
        key = Key.reader (target X) x.thread;
        there = and_both (leb (target X) 255) (leb x.thread 15) i (of-thread x r);
        left = and_both (accesses X && not (writes X)) (eqb (target X) (target X) && eqb x.thread x.thread) (and_both (accesses X) (not (writes X)) a (T_of (ap not w)))
            (and_both (eqb (target X) (target X)) (eqb x.thread x.thread) (eqb_refl (target X)) (eqb_refl x.thread));
        asked = and_both (writes Y) (eqb (target X) (target Y) && leb x.thread 15)
            (subst (λ c. T (c || writes Y)) w (and_right (accesses X && accesses Y) (writes X || writes Y) three))
            (and_both (eqb (target X) (target Y)) (leb x.thread 15) e (of-thread x r));
      })

  meet-lock : T (ranged x) → T (same_lock x y) → Meeting x y
  unfolding same_lock
  meet-lock r t =
      let two : T (locks X && locks Y) = and_left (locks X && locks Y) (eqb (target X) (target Y)) t in
      let e : T (eqb (target X) (target Y)) = and_right (locks X && locks Y) (eqb (target X) (target Y)) t in
      record {
        key = Key.lock (target X);
        there = of-lock X (and_left (locks X) (locks Y) two) (of-target x r);
        left = and_both (locks X) (eqb (target X) (target X)) (and_left (locks X) (locks Y) two) (eqb_refl (target X));
        asked = and_both (locks Y) (eqb (target X) (target Y)) (and_right (locks X) (locks Y) two) e;
      }

  forked-left : T (forks X) → T (leaves_at x (Key.thread (target X)))
  forked-left f = or_right (eqb (target X) x.thread) (forks X && eqb (target X) (target X)) (and_both (forks X) (eqb (target X) (target X)) f (eqb_refl (target X)))

  meet-first : Fits x y → T (ranged x) → T (governs x y) → Meeting x y
  unfolding governs
  meet-first fits r t =
      let e : T (eqb (target X) y.thread) = and_right (forks X || joins X) (eqb (target X) y.thread) t in
      or_cases (forks X) (joins X) (and_left (forks X || joins X) (eqb (target X) y.thread) t)
      (λ f. record {
        key = Key.thread (target X);
        there = of-child X (or_left (forks X) (joins X) f) (of-target x r);
        left = forked-left f;
        asked = or_left (eqb (target X) y.thread) (joins Y && eqb (target X) (target Y)) e;
      })
      (λ j. absurd (fits.joined j (eqb→eq (target X) y.thread e)))

  meet-second : Fits x y → T (ranged x) → T (governs y x) → Meeting x y
  unfolding governs
  meet-second fits r t =
      let e : target Y ≡ x.thread = eqb→eq (target Y) x.thread (and_right (forks Y || joins Y) (eqb (target Y) x.thread) t) in
      or_cases (forks Y) (joins Y) (and_left (forks Y || joins Y) (eqb (target Y) x.thread) t)
      (λ f. absurd (fits.acted f (sym e)))
      (λ j. record {
        key = Key.thread x.thread;
        there = of-thread x r;
        left = or_left (eqb x.thread x.thread) (forks X && eqb x.thread (target X)) (eqb_refl x.thread);
        asked = or_right (eqb x.thread y.thread) (joins Y && eqb x.thread (target Y)) (and_both (joins Y) (eqb x.thread (target Y)) j (eq-T (sym e)));
      })

  meet-child : Fits x y → T (ranged x) → T (same_child x y) → Meeting x y
  unfolding same_child
  meet-child fits r t =
      let e : T (eqb (target X) (target Y)) = and_right ((forks X && joins Y) || (joins X && forks Y)) (eqb (target X) (target Y)) t in
      or_cases (forks X && joins Y) (joins X && forks Y) (and_left ((forks X && joins Y) || (joins X && forks Y)) (eqb (target X) (target Y)) t)
      (λ b. let f : T (forks X) = and_left (forks X) (joins Y) b in
      record {
        key = Key.thread (target X);
        there = of-child X (or_left (forks X) (joins X) f) (of-target x r);
        left = forked-left f;
        asked = or_right (eqb (target X) y.thread) (joins Y && eqb (target X) (target Y)) (and_both (joins Y) (eqb (target X) (target Y)) (and_right (forks X) (joins Y) b) e);
      })
      (λ b. absurd (fits.ended (and_right (joins X) (forks Y) b) (and_left (joins X) (forks Y) b) (eqb→eq (target X) (target Y) e)))

  -- Of two events that conflict the later asks a cell where the earlier left its transaction
  pub conflict-cells : Fits x y → T (ranged x) → T (conflict x y) → Meeting x y
  unfolding conflict same_thread
  conflict-cells fits r t =
      or_cases (same_thread x y) (same_variable x y || (same_lock x y || (governs x y || (governs y x || same_child x y)))) t (λ u. own r (eqb→eq x.thread y.thread u)) (λ t1.
      or_cases (same_variable x y) (same_lock x y || (governs x y || (governs y x || same_child x y))) t1 (meet-variable r) (λ t2.
      or_cases (same_lock x y) (governs x y || (governs y x || same_child x y)) t2 (meet-lock r) (λ t3.
      or_cases (governs x y) (governs y x || same_child x y) t3 (meet-first fits r) (λ t4.
      or_cases (governs y x) (same_child x y) t4 (meet-second fits r) (meet-child fits r)))))

  -- Where both leave their transaction in a cell, the later asks one where the earlier left it
  pub both-leave : Fits x y → T (ranged x) → (k : Key) → T (inside k) → T (leaves_at x k) → T (leaves_at y k) → Meeting x y
  both-leave fits r (Key.lock m) i l a = record { key = Key.lock m; there = i; left = l; asked = a }
  both-leave fits r (Key.thread u) i l a = or_cases (eqb u y.thread) (forks Y && eqb u (target Y)) a
      (λ q. record { key = Key.thread u; there = i; left = l; asked = or_left (eqb u y.thread) (joins Y && eqb u (target Y)) q })
      (λ q. let f : T (forks Y) = and_left (forks Y) (eqb u (target Y)) q in
      let e : u ≡ target Y = eqb→eq u (target Y) (and_right (forks Y) (eqb u (target Y)) q) in
      or_cases (eqb u x.thread) (forks X && eqb u (target X)) l
      (λ p. absurd (fits.acted f (sym (eqb→eq u x.thread p) ∙ e)))
      (λ p. absurd (fits.forked f (and_left (forks X) (eqb u (target X)) p) (sym (eqb→eq u (target X) (and_right (forks X) (eqb u (target X)) p)) ∙ e))))
  both-leave fits r (Key.writer v) i l a = record {
    key = Key.writer v;
    there = i;
    left = l;
    asked = and_both (accesses Y) (eqb v (target Y)) (writes-accesses Y (and_left (writes Y) (eqb v (target Y)) a)) (and_right (writes Y) (eqb v (target Y)) a);
  }
  both-leave fits r (Key.reader v u) i l a = own r
      (sym (eqb→eq u x.thread (and_right (eqb v (target X)) (eqb u x.thread) (and_right (accesses X && not (writes X)) (eqb v (target X) && eqb u x.thread) l)))
      ∙ eqb→eq u y.thread (and_right (eqb v (target Y)) (eqb u y.thread) (and_right (accesses Y && not (writes Y)) (eqb v (target Y) && eqb u y.thread) a)))
