-- Laws for the function that reads a line: the words that are left, and what each of them says.
use Prim.Native.Nat.{ℕ, suc, ◌-◌, ◌≤◌, ◌<◌}
use native.Mathlib.Omega.{arith}
use mathlib.Core.Path.{◌≡◌, refl, sym, ap, ap₂, ◌∙◌}
use mathlib.Core.Logic.{◌≢◌}
use mathlib.Core.Bool.{Bool, true, false, cond, not, ◌&&◌}
use mathlib.Core.List.{List, [], ◌∷◌, ◌++◌, append-nil}
use lib.ListN.{length, get_or, length-append, get_or-append}
use lib.Seq.{get_or_at}
use lib.Dec.{leb, eqb}
use borrow.Author.Tests.{le-leb, lt-leb, leb-true, leb-false, eqb-true}
use denote.Ref.{Bor}
use denote.Param.Members.{Mut}
use Rattle.std.specs.declared.slice.Split.{Split}
use Rattle.std.specs.Slice.Iter.{split_rest, split_done, split_callee, split_steps}
use Rattle.std.specs.Fn.{ComputesKey}
use Rattle.std.specs.List.{IsFirstMatchOrLen}
use Rattle.std.specs.Bool.{MatchBool}
use Rattle.std.specs.Prelude.{Option, Some, None, is_some, Result, Ok}
use Rattle.lists.proofs.Tests.{by}
use Rattle.lists.proofs.Lists.{all_none, all_more}
use Rattle.record.specs.declared.Event.{Event}
use Rattle.record.specs.Faults.{Refusal}
use Rattle.record.specs.Record.{target_limit, operation}
use Rattle.decimal.specs.Decimal.{value_from, value_of, is_number}
use Rattle.text.specs.Line.{space, line_feed, words, field_count, limits, fit, kind_named, formless, read_fields, read_operation, read_words, line_read}
use Rattle.text.proofs.Words.{lacks, words-first, words-alone}
use Rattle.text.proofs.Lines.{fields-good, fields-bad, operation-named, operation-none, operation-missing, words-good, words-bad, line-unended, line-of-body}
use Rattle.text.proofs.Scans.{Number}

-- ---- The words that are left

abbrev pub spaces : ℕ → Bool
spaces c = eqb c space

-- bytes that are no space, one by one
lacks-each : (w : List ℕ) → ((k : ℕ) → k < length w → spaces (get_or w k 0) ≡ false) → lacks space w ≡ true
lacks-each [] h = all_none (λ c. not (spaces c))
lacks-each (c ∷ w) h = all_more (λ c. not (spaces c)) c w (ap not (h 0 (omega arith))) (lacks-each w (λ k l. h (suc k) (omega arith)))

abbrev pub left : {F : Type 0} → Split ℕ F → List (List ℕ)
left s = cond (split_done s) [] (words (split_rest s))

pub next-none : {F : Type 0} (s : Split ℕ F) → split_done s ≡ true → left s ≡ []
next-none s h = ap (λ b. cond b [] (words (split_rest s))) h

-- the word x is the next one, and those that t has left come after it
module _ {F : Type 0} {g : Mut F (Bor ℕ × Unit {0}) Bool} where
  pub next-word : (s t : Split ℕ F) (x : Bor (List ℕ)) → ComputesKey g spaces (split_callee s) → split_steps g s (Some x) t
      → (left s ≡ x.now ∷ left t) × ComputesKey g spaces (split_callee t)
  next-word s t x k h =
      let f = h.2 spaces k in
      (ap (λ b. cond b [] (words (split_rest s))) h.0 ∙ go (split_done t) h.1 f.1, f.0)
    where
      front : (rest : List ℕ) → split_rest s ≡ x.now ++ rest → IsFirstMatchOrLen spaces (split_rest s) (length x.now) → lacks space x.now ≡ true
      front rest e f = lacks-each x.now (λ k l. ap spaces (sym (ap (λ b. get_or b k 0) e ∙ get_or-append x.now rest 0 k l)) ∙ f.0 k 0 (omega arith) l)

      go : (b : Bool) → MatchBool b (split_rest s ≡ x.now) ((y : ℕ) × (split_rest s ≡ x.now ++ (y ∷ split_rest t)))
          → IsFirstMatchOrLen spaces (split_rest s) (length x.now) → words (split_rest s) ≡ x.now ∷ cond b [] (words (split_rest t))
      go true e f = ap words e ∙ words-alone x.now (front [] (e ∙ sym (append-nil x.now)) f)
      go false (y, e) f =
          let cut : spaces y ≡ true =
          ap spaces (sym (ap (λ b. get_or b (length x.now) 0) e ∙ get_or_at x.now y (split_rest t) 0 (length x.now) refl)) ∙ f.1 (omega (arith, ap length e, length-append x.now (y ∷ split_rest t))) 0 in
          ap words (e ∙ ap (λ c. x.now ++ (c ∷ split_rest t)) (eqb-true y space cut)) ∙ words-first x.now (split_rest t) (front (y ∷ split_rest t) e f)

  pub more-words : (s t : Split ℕ F) (r : Option (Bor (List ℕ))) → ComputesKey g spaces (split_callee s) → split_steps g s r t → is_some r ≡ true → (w : List ℕ) × (left s ≡ w ∷ left t)
  more-words s t None k h e = let no : ◌≡◌ {A = ℕ} 0 1 = cc e in absurd (omega arith)
  more-words s t (Some x) k h e = (x.now, (next-word s t x k h).0)

pub no-words : {F : Type 0} (g : Mut F (Bor ℕ × Unit {0}) Bool) (s t : Split ℕ F) (r : Option (Bor (List ℕ))) → split_steps g s r t → is_some r ≡ false → left s ≡ []
no-words g s t None h e = next-none s h.0
no-words g s t (Some x) h e = let no : ◌≡◌ {A = ℕ} 0 1 = cc e in absurd (omega arith)

-- ---- The line, by its last byte

pub last-feed : (line body : List ℕ) (c : ℕ) → line ≡ body ++ (c ∷ []) → c ≡ line_feed → line_read line ≡ read_words (words body)
last-feed line body c e h = ap line_read (e ∙ ap (λ x. body ++ (x ∷ [])) h) ∙ line-of-body body

pub last-other : (line body : List ℕ) (c : ℕ) → line ≡ body ++ (c ∷ []) → c ≢ line_feed → line_read line ≡ formless
last-other line body c e h =
    line-unended line (λ f. h (sym (ap (λ n. get_or line n 0) size ∙ ap (λ b. get_or b (length body) 0) e ∙ get_or_at body c [] 0 (length body) refl) ∙ f))
  where
    size : length line - 1 ≡ length body
    size = omega (arith, ap length e, length-append body (c ∷ []))

-- ---- The thread and the kind, word by word

pub thread-bad : (ws rest : List (List ℕ)) (w : List ℕ) → ws ≡ w ∷ rest → is_number 15 w ≡ false → read_words ws ≡ formless
thread-bad ws rest w e h = ap read_words e ∙ words-bad w rest h

pub thread-good : (ws rest : List (List ℕ)) (w : List ℕ) (t : ℕ) → ws ≡ w ∷ rest → Number 15 w t → read_words ws ≡ read_operation t rest
thread-good ws rest w t e n = ap read_words e ∙ words-good w rest n.is ∙ ap (λ t. read_operation t rest) n.worth

pub kind-missing : (t : ℕ) (ws : List (List ℕ)) → ws ≡ [] → read_operation t ws ≡ formless
kind-missing t ws e = ap (read_operation t) e ∙ operation-missing t

pub kind-bad : (t : ℕ) (ws rest : List (List ℕ)) (w : List ℕ) → ws ≡ w ∷ rest → kind_named w ≡ 0 → read_operation t ws ≡ formless
kind-bad t ws rest w e h = ap (read_operation t) e ∙ operation-none t w rest h

pub kind-good : (t k : ℕ) (ws rest : List (List ℕ)) (w : List ℕ) → ws ≡ w ∷ rest → k ≡ kind_named w → 1 ≤ k → read_operation t ws ≡ read_fields t k rest
kind-good t k ws rest w e h l = ap (read_operation t) e ∙ operation-named t k w rest (sym h) l

-- the words of a line that has just been taken apart
pub begun : {F : Type 0} (line body : List ℕ) (s : Split ℕ F) → line_read line ≡ read_words (words body) → split_rest s ≡ body → split_done s ≡ false → line_read line ≡ read_words (left s)
begun line body s a e d = a ∙ sym (ap₂ (λ b r. read_words (cond b [] (words r))) d e)

-- ---- What each kind has

by_kind : {C : Type 0} (k : ℕ) → (k ≤ 2 → C) → (2 < k → k ≤ 9 → C) → (9 < k → C) → C
by_kind k two one none = by (leb k 2)
    (λ e. two (leb-true k 2 e))
    (λ e. by (leb k 9) (λ f. one (leb-false k 2 e) (leb-true k 9 f)) (λ f. none (leb-false k 9 f)))

limits-two : (k : ℕ) → k ≤ 2 → limits k ≡ target_limit k ∷ 65535 ∷ []
unfolding limits field_count
limits-two k h = simp (le-leb k 2 h)

limits-one : (k : ℕ) → 2 < k → k ≤ 9 → limits k ≡ target_limit k ∷ []
unfolding limits field_count
limits-one k l h = simp (lt-leb k 2 l, le-leb k 9 h)

limits-none : (k : ℕ) → 9 < k → limits k ≡ []
unfolding limits field_count
limits-none k h = simp (lt-leb k 2 (omega arith), lt-leb k 9 h)

-- a number that the kinds below `low` have: of the words `ws` it is the first, and `rest` come after it
pub record Field (k low limit : ℕ) (ws rest : List (List ℕ)) (x : ℕ) : Type 0 where
  pub taken : k < low → (w : List ℕ) × (ws ≡ w ∷ rest) × Number limit w x
  pub none : low ≤ k → (ws ≡ rest) × (x ≡ 0)

pub field-taken : (k low limit : ℕ) (ws rest : List (List ℕ)) (w : List ℕ) (x : ℕ) → k < low → ws ≡ w ∷ rest → Number limit w x → Field k low limit ws rest x
field-taken k low limit ws rest w x l e n = record { taken = λ _. (w, e, n); none = λ h. absurd (omega arith) }

pub field-none : (k low limit : ℕ) (ws rest : List (List ℕ)) (x : ℕ) → low ≤ k → ws ≡ rest → x ≡ 0 → Field k low limit ws rest x
field-none k low limit ws rest x l e z = record { taken = λ h. absurd (omega arith); none = λ _. (e, z) }

module _ (t k : ℕ) (ws : List (List ℕ)) where
  -- without a target that fits
  unfit : (w : List (List ℕ)) → ws ≡ w → ((ms : List ℕ) → fit (target_limit k ∷ ms) w ≡ false) → k < 10 → read_fields t k ws ≡ formless
  unfit w e bad l = fields-bad t k ws (by_kind k
      (λ a. ap₂ fit (limits-two k a) e ∙ bad (65535 ∷ []))
      (λ a b. ap₂ fit (limits-one k a b) e ∙ bad [])
      (λ a. absurd (omega arith)))

  pub target-missing : ws ≡ [] → k < 10 → read_fields t k ws ≡ formless
  unfolding fit
  target-missing e l = unfit [] e (λ ms. refl) l

  pub target-bad : (w : List ℕ) (rest : List (List ℕ)) → ws ≡ w ∷ rest → is_number (target_limit k) w ≡ false → k < 10 → read_fields t k ws ≡ formless
  unfolding fit
  target-bad w rest e h l = unfit (w ∷ rest) e (λ ms. ap (λ b. b && fit ms rest) h) l

  module _ (rest : List (List ℕ)) (x : ℕ) (f : Field k 10 (target_limit k) ws rest x) where
    value-unfit : (w : List (List ℕ)) → rest ≡ w → fit (65535 ∷ []) w ≡ false → k < 3 → read_fields t k ws ≡ formless
    unfolding fit
    value-unfit w e bad l =
        let a = f.taken (omega arith) in
        fields-bad t k ws (ap₂ fit (limits-two k (omega arith)) (a.1 ∙ ap (λ r. a.0 ∷ r) e) ∙ ap₂ (λ p q. p && q) a.2.is bad)

    pub value-missing : rest ≡ [] → k < 3 → read_fields t k ws ≡ formless
    unfolding fit
    value-missing e l = value-unfit [] e refl l

    pub value-bad : (w : List ℕ) (more : List (List ℕ)) → rest ≡ w ∷ more → is_number 65535 w ≡ false → k < 3 → read_fields t k ws ≡ formless
    unfolding fit
    value-bad w more e h l = value-unfit (w ∷ more) e (ap (λ b. b && fit [] more) h) l

    module _ (end : List (List ℕ)) (v : ℕ) (q : Field k 3 65535 rest end v) where
      fits : (b : Bool) → fit [] end ≡ b → fit (limits k) ws ≡ b
      unfolding fit
      fits b h = by_kind k
          (λ a. let p = f.taken (omega arith) in
          let r = q.taken (omega arith) in
          ap₂ fit (limits-two k a) (p.1 ∙ ap (λ y. p.0 ∷ y) r.1) ∙ ap₂ (λ i j. i && (j && fit [] end)) p.2.is r.2.is ∙ h)
          (λ a c. let p = f.taken (omega arith) in
          ap₂ fit (limits-one k a c) (p.1 ∙ ap (λ y. p.0 ∷ y) (q.none a).0) ∙ ap (λ i. i && fit [] end) p.2.is ∙ h)
          (λ a. ap₂ fit (limits-none k a) ((f.none a).0 ∙ (q.none (omega arith)).0) ∙ h)

      pub too-many : (w : List ℕ) (more : List (List ℕ)) → end ≡ w ∷ more → read_fields t k ws ≡ formless
      unfolding fit
      too-many w more e = fields-bad t k ws (fits false (ap (fit []) e))

      pub fields-read : end ≡ [] → read_fields t k ws ≡ Ok (record { thread = t; op = operation k x v })
      unfolding fit value_from
      fields-read e =
          fields-good t k ws (fits true (ap (fit []) e))
          ∙ by_kind k
          (λ a. let p = f.taken (omega arith) in
          let r = q.taken (omega arith) in
          worth (p.0 ∷ r.0 ∷ []) (p.1 ∙ ap (λ y. p.0 ∷ y) (r.1 ∙ ap (λ y. r.0 ∷ y) e)) p.2.worth r.2.worth)
          (λ a c. let p = f.taken (omega arith) in
          worth (p.0 ∷ []) (p.1 ∙ ap (λ y. p.0 ∷ y) ((q.none a).0 ∙ e)) p.2.worth (zero-worth ∙ sym (q.none a).1))
          (λ a. worth [] ((f.none a).0 ∙ (q.none (omega arith)).0 ∙ e) (zero-worth ∙ sym (f.none a).1) (zero-worth ∙ sym (q.none (omega arith)).1))
        where
          zero-worth : value_of [] ≡ 0
          zero-worth = refl

          read : ℕ → ℕ → ℕ → Result Event Refusal
          read k x v = Ok (record { thread = t; op = operation k x v })

          worth : (r : List (List ℕ)) → ws ≡ r → value_of (get_or r 0 []) ≡ x → value_of (get_or r 1 []) ≡ v
              → read k (value_of (get_or ws 0 [])) (value_of (get_or ws 1 [])) ≡ read k x v
          worth r z y u =
              ap (λ r. read k (value_of (get_or r 0 [])) (value_of (get_or r 1 []))) z ∙ ap₂ (read k) y u
