-- What the sources of a record do to the rows: where the first m rows stand for the edges before it, they stand for the edges with it.
use Prim.Native.Nat.{ℕ, zero, suc, ◌<◌, ◌≤◌}
use native.Mathlib.Omega.{arith}
use mathlib.Core.Path.{◌≡◌, refl, sym, ap, ap₂, ◌∙◌, subst}
use mathlib.Core.Bool.{Bool, true, false, not, cond, ◌&&◌, ◌||◌, or_assoc, or-false}
use mathlib.Core.List.{List, [], ◌∷◌, ◌++◌, append-nil}
use borrow.Author.Tests.{ltb-true, ltb-false}
use lib.Dec.{T, ltb}
use lib.ListN.{length}
use lib.Seq.{append_snoc}
use Rattle.lists.specs.Lists.{some_of}
use Rattle.trace.specs.Paths.{Edge, PathAlong, reaches, cyclic}
use Rattle.lists.proofs.Tests.{by, by-same, T_of, or_cases, or_left, or_right, and_left, and_right, same_test, or-false-both, not-false, or-and-self}
use Rattle.lists.proofs.Lists.{Among, some-cons, some-snoc, some_same, some-has, some_at, Holds}
use Rattle.trace.proofs.Reach.{sound, complete, path-joined, edge-back}
use Rattle.rows.specs.Bits.{has, joined}
use Rattle.rows.proofs.Laws.{joined-row, joined-other, length-joined, rest-joined}
use Rattle.graph.proofs.Steps.{among_none, among-split}
use Rattle.ancestors.specs.Ancestors.{Stands}
use Rattle.ancestors.specs.Sources.{gathered, meeting, some_new, spread_to, closed_rows}
use Rattle.ancestors.proofs.Standing.{Kept, kept_then, SpreadTo, spread_none, spread-skip, spread-more}

-- the rows of bs, which are among the first m, are joined into row t of the rows before
record Gathering (m : ℕ) (before : List ℕ) (t : ℕ) (bs : List ℕ) (after : List ℕ) : Type 0 where
  kept : Kept before after
  small : (b : ℕ) → Among b bs → b < m
  row : (a : ℕ) → a < 512 → has after t a ≡ (has before t a || some_of (λ b. has before b a) bs)
  others : (a d : ℕ) → a < 512 → (d ≡ t → ⊥) → has after d a ≡ has before d a

-- a third test that passes only where one of two does
absorbed : (p q r : Bool) → (T r → T (p || q)) → (p || q) ≡ (p || (q || r))
absorbed true q r h = refl
absorbed false true r h = refl
absorbed false false true h = absurd (h tt)
absorbed false false false h = refl

-- without a cycle, two that reach one another are the same
pub reaches-both : (g : List Edge) → cyclic g ≡ false → (a b : ℕ) → T (reaches g a b) → T (reaches g b a) → a ≡ b
reaches-both g acyclic a b u v = go (sound g a b u) v
  where
    go : {c d : ℕ} → PathAlong g c d → T (reaches g d c) → c ≡ d
    go PathAlong.here v = refl
    go {c} {d} (PathAlong.there {b = e} f p) v = absurd (subst T acyclic (edge-back g c e f (complete g (path-joined p (sound g d c v)))))

module _ (m : ℕ) (most : m ≤ 512) (w₀ : List ℕ) (g : List Edge) (stands : Stands m w₀ g) (t : ℕ) (in-t : t < m) where
  -- who reaches one that reaches another reaches that
  through : (a b d : ℕ) → a < 512 → b < m → d < m → T (has w₀ b a) → T (has w₀ d b) → T (has w₀ d a)
  through a b d ha hb hd p q =
      subst T (sym (stands.is a d ha hd)) (complete g (path-joined (sound g a b (subst T (stands.is a b ha hb) p)) (sound g b d (subst T (stands.is b d (omega arith) hd) q))))

  module _ (bs : List ℕ) (w : List ℕ) (b : ℕ) (in_b : b < m) (ne : b ≡ t → ⊥) (G : Gathering m w₀ t bs w) where
    wide : 4096 ≤ length w
    wide = omega (arith, stands.long, G.kept.size)

    in-t₀ : t < 512
    in-t₀ = omega arith

    in-b₀ : b < 512
    in-b₀ = omega arith

    all_small : (c : ℕ) → Among c (bs ++ (b ∷ [])) → c < m
    all_small c i = among-split bs b i (λ n. G.small c n) (λ e. omega arith)

    joins-in : Gathering m w₀ t (bs ++ (b ∷ [])) (joined w t b)
    joins-in = record {
      kept = kept_then w₀ w (joined w t b) G.kept (length-joined w t b in-t₀ in-b₀ wide) (rest-joined w t b in-t₀ in-b₀ wide);
      small = all_small;
      row = λ a ha. joined-row w t b in-t₀ in-b₀ wide a ha
          ∙ ap₂ (λ p q. p || q) (G.row a ha) (G.others a b ha ne)
          ∙ or_assoc (has w₀ t a) (some_of (λ c. has w₀ c a) bs) (has w₀ b a)
          ∙ ap (λ c. has w₀ t a || c) (sym (some-snoc (λ c. has w₀ c a) bs b));
      others = λ a d ha nd. joined-other w t b in-t₀ in-b₀ wide d a ha nd ∙ G.others a d ha nd;
    }

    -- who reaches b reaches t already, or one of bs
    known : has w t b ≡ true → (a : ℕ) → a < 512 → T (has w₀ b a) → T (has w₀ t a || some_of (λ c. has w₀ c a) bs)
    known e a ha p = or_cases (has w₀ t b) (some_of (λ c. has w₀ c b) bs) (T_of (sym (G.row b in-b₀) ∙ e))
        (λ q. or_left (has w₀ t a) (some_of (λ c. has w₀ c a) bs) (through a b t ha in_b in-t p q))
        (λ q. let f : Holds (λ c. has w₀ c b) bs = some_at (λ c. has w₀ c b) bs q in
        or_right (has w₀ t a) (some_of (λ c. has w₀ c a) bs)
        (some-has (λ c. has w₀ c a) f.x bs f.in-l (through a b f.x ha in_b (G.small f.x f.in-l) p f.holds)))

    stays_out : has w t b ≡ true → Gathering m w₀ t (bs ++ (b ∷ [])) w
    stays_out e = record {
      kept = G.kept;
      small = all_small;
      row = λ a ha. G.row a ha
          ∙ absorbed (has w₀ t a) (some_of (λ c. has w₀ c a) bs) (has w₀ b a) (known e a ha)
          ∙ ap (λ c. has w₀ t a || c) (sym (some-snoc (λ c. has w₀ c a) bs b));
      others = G.others;
    }

    gathering-more : Gathering m w₀ t (bs ++ (b ∷ [])) (cond (has w t b) w (joined w t b))
    gathering-more = by (has w t b)
        (λ e. subst (λ c. Gathering m w₀ t (bs ++ (b ∷ [])) (cond c w (joined w t b))) (sym e) (stays_out e))
        (λ e. subst (λ c. Gathering m w₀ t (bs ++ (b ∷ [])) (cond c w (joined w t b))) (sym e) joins-in)

  gathering-on : (done bs w : List ℕ) → Gathering m w₀ t done w → ((b : ℕ) → Among b bs → b < m) → ((b : ℕ) → Among b bs → b ≡ t → ⊥)
      → Gathering m w₀ t (done ++ bs) (gathered w t bs)
  unfolding gathered
  gathering-on done [] w G small ne = subst (λ l. Gathering m w₀ t l w) (sym (append-nil done)) G
  gathering-on done (b ∷ bs) w G small ne =
      subst (λ l. Gathering m w₀ t l (gathered w t (b ∷ bs))) (append_snoc done b bs)
      (gathering-on (done ++ (b ∷ [])) bs (cond (has w t b) w (joined w t b)) (gathering-more done w b (small b Among.top) (ne b Among.top) G)
      (λ c i. small c (Among.deeper i)) (λ c i. ne c (Among.deeper i)))

  -- none has come in
  started : Gathering m w₀ t [] w₀
  unfolding some_of
  started = record {
    kept = record { size = refl; rest = refl };
    small = λ b i. absurd (among_none i);
    row = λ a ha. sym (or-false (has w₀ t a));
    others = λ a d ha nd. refl;
  }

  gathering : (bs : List ℕ) → ((b : ℕ) → Among b bs → b < m) → ((b : ℕ) → Among b bs → b ≡ t → ⊥) → Gathering m w₀ t bs (gathered w₀ t bs)
  gathering bs small ne = gathering-on [] bs w₀ started small ne

  -- Without a cycle, who is new and reached is asked for no more than who is reached
  module _ (acyclic : cyclic g ≡ false) where
    in-t₁ : t < 512
    in-t₁ = omega arith

    apart : (b : ℕ) → b < m → (b ≡ t → ⊥) → T (has w₀ t b) → T (has w₀ b t) → ⊥
    apart b in_b ne p q = ne (reaches-both g acyclic b t (subst T (stands.is b t (omega arith) in-t) p) (subst T (stands.is t b in-t₁ in_b) q))

    -- one whose bit row t has is not reached from t
    unreached : (done w : List ℕ) → Gathering m w₀ t done w → ((c : ℕ) → Among c done → has w₀ c t ≡ false) → (b : ℕ) → b < m → (b ≡ t → ⊥) → has w t b ≡ true → has w₀ b t ≡ false
    unreached done w G unmet b in_b nb e = by (has w₀ b t)
        (λ h. absurd (or_cases (has w₀ t b) (some_of (λ c. has w₀ c b) done) (T_of (sym (G.row b (omega arith)) ∙ e))
        (λ p. apart b in_b nb p (T_of h))
        (λ p. let f : Holds (λ c. has w₀ c b) done = some_at (λ c. has w₀ c b) done p in
        subst T (unmet f.x f.in-l) (through t b f.x in-t₁ in_b (G.small f.x f.in-l) (T_of h) f.holds))))
        (λ h. h)

    meeting-on : (done bs w : List ℕ) → Gathering m w₀ t done w → ((c : ℕ) → Among c done → has w₀ c t ≡ false) → ((b : ℕ) → Among b bs → b < m) → ((b : ℕ) → Among b bs → b ≡ t → ⊥)
        → meeting w t bs ≡ some_of (λ b. has w₀ b t) bs
    unfolding meeting some_of
    meeting-on done [] w G unmet small ne = refl
    meeting-on done (b ∷ bs) w G unmet small ne =
        let in_b : b < m = small b Among.top in
        let nb : (b ≡ t → ⊥) = ne b Among.top in
        let turn : (v : List ℕ) → Gathering m w₀ t (done ++ (b ∷ [])) v → has w₀ b t ≡ false → meeting v t bs ≡ some_of (λ c. has w₀ c t) bs =
        λ v H no. meeting-on (done ++ (b ∷ [])) bs v H (λ c i. among-split done b i (λ j. unmet c j) (λ e. ap (λ k. has w₀ k t) e ∙ no)) (λ c i. small c (Among.deeper i)) (λ c i. ne c (Among.deeper i)) in
        by (has w t b)
        (λ e. let no : has w₀ b t ≡ false = unreached done w G unmet b in_b nb e in
        ap (λ c. (not c && has w b t) || meeting (cond c w (joined w t b)) t bs) e
        ∙ turn w (stays_out done w b in_b nb G e) no
        ∙ sym (some-cons (λ c. has w₀ c t) b bs ∙ ap (λ c. c || some_of (λ d. has w₀ d t) bs) no))
        (λ e. ap (λ c. (not c && has w b t) || meeting (cond c w (joined w t b)) t bs) e
        ∙ ap (λ c. c || meeting (joined w t b) t bs) (G.others t b in-t₁ nb)
        ∙ by (has w₀ b t)
        (λ h. ap (λ c. c || meeting (joined w t b) t bs) h ∙ sym (some-cons (λ c. has w₀ c t) b bs ∙ ap (λ c. c || some_of (λ d. has w₀ d t) bs) h))
        (λ h. ap (λ c. c || meeting (joined w t b) t bs) h ∙ turn (joined w t b) (joins-in done w b in_b nb G) h
        ∙ sym (some-cons (λ c. has w₀ c t) b bs ∙ ap (λ c. c || some_of (λ d. has w₀ d t) bs) h)))

    pub meeting-is : (bs : List ℕ) → ((b : ℕ) → Among b bs → b < m) → ((b : ℕ) → Among b bs → b ≡ t → ⊥) → meeting w₀ t bs ≡ some_of (λ b. has w₀ b t) bs
    meeting-is bs small ne = meeting-on [] bs w₀ started (λ c i. absurd (among_none i)) small ne

-- where row t has the bits of all sources, nothing is joined
pub none-new : (w : List ℕ) (t : ℕ) (bs : List ℕ) → some_new w t bs ≡ false → gathered w t bs ≡ w
unfolding gathered
none-new w t [] e = refl
none-new w t (b ∷ bs) e =
    let two = or-false-both (not (has w t b)) (some_of (λ c. not (has w t c)) bs) (sym (some-cons (λ c. not (has w t c)) b bs) ∙ e) in
    ap (λ c. gathered (cond c w (joined w t b)) t bs) (not-false (has w t b) two.0) ∙ none-new w t bs two.1

-- row t spread over the first n rows
spread-first : (t n : ℕ) (w : List ℕ) → t < 512 → n ≤ 512 → 4096 ≤ length w → SpreadTo t w n (spread_to n w t)
unfolding spread_to
spread-first t zero w in-t h long = spread_none t w
spread-first t (suc n) w in-t h long =
    let v : List ℕ = spread_to n w t in
    let S : SpreadTo t w n v = spread-first t n w in-t (omega arith) long in
    by (has v n t)
    (λ e. subst (λ c. SpreadTo t w (suc n) (cond c (joined v n t) v)) (sym e) (spread-more t w v n long in-t (omega arith) S e))
    (λ e. subst (λ c. SpreadTo t w (suc n) (cond c (joined v n t) v)) (sym e) (spread-skip t w v n long in-t (omega arith) S e))

-- The edges h are the edges g and one to t from each of bs. Of the rows that t reaches, other than its own, all are among the first n
module _ (m : ℕ) (most : m ≤ 512) (w₀ : List ℕ) (g h : List Edge) (stands : Stands m w₀ g) (t n : ℕ) (in-t : t < m) (in-n : n ≤ 512) (bs : List ℕ)
    (small : (b : ℕ) → Among b bs → b < m) (ne : (b : ℕ) → Among b bs → b ≡ t → ⊥)
    (goal : (a : ℕ) → reaches h a t ≡ (reaches g a t || some_of (λ b. reaches g a b) bs))
    (beyond : (a d : ℕ) → reaches h a d ≡ (reaches g a d || (reaches g t d && reaches h a t)))
    (far : (d : ℕ) → d < m → n ≤ d → T (reaches g t d) → d ≡ t) where
  abbrev w : List ℕ
  w = gathered w₀ t bs

  abbrev v : List ℕ
  v = spread_to n w t

  G : Gathering m w₀ t bs w
  G = gathering m most w₀ g stands t in-t bs small ne

  long : 4096 ≤ length w
  long = omega (arith, stands.long, G.kept.size)

  S : SpreadTo t w n v
  S = spread-first t n w (omega arith) in-n long

  row_is : (a : ℕ) → a < 512 → has w t a ≡ reaches h a t
  row_is a ha =
      G.row a ha ∙ ap₂ (λ p q. p || q) (stands.is a t ha in-t) (some_same (λ b. has w₀ b a) (λ b. reaches g a b) bs (λ b i. stands.is a b ha (small b i)))
      ∙ sym (goal a)

  own_row : (a : ℕ) → a < 512 → has v t a ≡ reaches h a t
  own_row a ha = by (ltb t n)
      (λ e. S.done a t ha (ltb-true t n e) ∙ or-and-self (has w t a) (has w t t) ∙ row_is a ha)
      (λ e. S.left a t ha (ltb-false t n e) ∙ row_is a ha)

  other_row : (a d : ℕ) → a < 512 → d < m → (d ≡ t → ⊥) → has v d a ≡ reaches h a d
  other_row a d ha hd nd = by (ltb d n)
      (λ e. S.done a d ha (ltb-true d n e)
      ∙ ap₂ (λ p q. p || q) (G.others a d ha nd ∙ stands.is a d ha hd) (ap₂ (λ p q. p && q) (G.others t d (omega arith) nd ∙ stands.is t d (omega arith) hd) (row_is a ha))
      ∙ sym (beyond a d))
      (λ e. S.left a d ha (ltb-false d n e) ∙ G.others a d ha nd ∙ stands.is a d ha hd
      ∙ sym (beyond a d ∙ ap (λ c. reaches g a d || (c && reaches h a t)) (unreached (ltb-false d n e)) ∙ or-false (reaches g a d)))
    where
      unreached : n ≤ d → reaches g t d ≡ false
      unreached le = by (reaches g t d) (λ q. absurd (nd (far d hd le (T_of q)))) (λ q. q)

  spread-stands : Stands m v h
  spread-stands = record {
    long = omega (arith, long, S.kept.size);
    is = λ a d ha hd. by-same d t
        (λ e. subst (λ k. has v k a ≡ reaches h a k) (sym e) (own_row a ha))
        (λ nd. other_row a d ha hd nd);
  }

  -- all sources reach t already: nobody reaches more
  same-stands : w ≡ w₀ → Stands m w₀ h
  same-stands e = record { long = stands.long; is = λ a d ha hd. stands.is a d ha hd ∙ sym (beyond a d ∙ ap (λ c. reaches g a d || (reaches g t d && c)) (before a ha) ∙ short a d) }
    where
      before : (a : ℕ) → a < 512 → reaches h a t ≡ reaches g a t
      before a ha = sym (row_is a ha) ∙ ap (λ l. has l t a) e ∙ stands.is a t ha in-t

      short : (a d : ℕ) → (reaches g a d || (reaches g t d && reaches g a t)) ≡ reaches g a d
      short a d = same_test (reaches g a d || (reaches g t d && reaches g a t)) (reaches g a d)
          (λ u. or_cases (reaches g a d) (reaches g t d && reaches g a t) u (λ p. p)
          (λ p. complete g (path-joined (sound g a t (and_right (reaches g t d) (reaches g a t) p)) (sound g t d (and_left (reaches g t d) (reaches g a t) p)))))
          (λ u. or_left (reaches g a d) (reaches g t d && reaches g a t) u)

  -- The rows after the record stand for the edges with it
  pub closed-stands : Stands m (closed_rows w₀ n t bs) h
  unfolding closed_rows
  closed-stands = by (some_new w₀ t bs)
      (λ e. subst (λ c. Stands m (cond c v w₀) h) (sym e) spread-stands)
      (λ e. subst (λ c. Stands m (cond c v w₀) h) (sym e) (same-stands (none-new w₀ t bs e)))

  pub closed-kept : Kept w₀ (closed_rows w₀ n t bs)
  unfolding closed_rows
  closed-kept = by (some_new w₀ t bs)
      (λ e. subst (λ c. Kept w₀ (cond c v w₀)) (sym e) (kept_then w₀ w v G.kept S.kept.size S.kept.rest))
      (λ e. subst (λ c. Kept w₀ (cond c v w₀)) (sym e) (record { size = refl; rest = refl }))
