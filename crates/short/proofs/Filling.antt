-- Zeros still stand behind the bytes when there are more of them.
use Rattle.std.specs.Prelude.{ℕ, ◌≡◌, ◌+◌, ◌-◌, ◌<◌, ◌≤◌, ◌++◌, List, length, take, drop, set, replicate}
use mathlib.Core.Path.{sym, ap, ◌∙◌}
use native.Mathlib.Omega.{arith}
use borrow.Rule.Slice.PartMut.{put_mid}
use Rattle.std.proofs.lemmas.List.{drop-drop, drop-replicate, drop-set-lt, length-set, length-append, length-drop, length-take-le}
use Rattle.std.proofs.lemmas.Slice.{drop-put_mid}
use Rattle.short.specs.Zeros.{Filled}

fewer : (n len k : ℕ) → n - len - k ≡ n - (len + k)
fewer n len k = omega arith

zeros-after : (n : ℕ) (bytes : List ℕ) (len k : ℕ) → drop len bytes ≡ replicate (n - len) 0 → drop (len + k) bytes ≡ replicate (n - (len + k)) 0
zeros-after n bytes len k h =
    sym (drop-drop k len bytes) ∙ ap (drop k) h ∙ drop-replicate k (n - len) 0 ∙ ap (λ m. replicate m 0) (fewer n len k)

pub filled-set : (n : ℕ) (bytes : List ℕ) (len b : ℕ) → Filled n bytes len → len < n → Filled n (set bytes len b) (len + 1)
filled-set n bytes len b h room =
    (omega arith, length-set bytes len b ∙ h.1, drop-set-lt (len + 1) bytes len b (omega arith) ∙ zeros-after n bytes len 1 h.2)

pub filled-put : (n : ℕ) (bytes more : List ℕ) (len k : ℕ) → Filled n bytes len → len + k ≤ n → length more ≡ k → Filled n (put_mid len k bytes more) (len + k)
filled-put n bytes more len k h room size =
    let front : length (take len bytes) ≡ len = length-take-le len bytes (omega (arith, h.0, h.1)) in
    let behind : List ℕ = drop k (drop len bytes) in
    let long : length (put_mid len k bytes more) ≡ n =
    omega (arith, h.1, room, size, front, length-append (take len bytes) (more ++ behind), length-append more behind, length-drop k (drop len bytes), length-drop len bytes) in
    (room, long, drop-put_mid len k bytes more (len + k) (omega arith) (omega (arith, h.0, h.1)) size ∙ zeros-after n bytes len k h.2)
