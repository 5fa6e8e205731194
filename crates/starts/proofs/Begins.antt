-- Tokens that begin with one more test.
-- Assumes nothing.
use Rattle.std.proofs.Common.{◌≡◌, ◌≤◌, Bool, true, List, [], ◌∷◌, length, get_or, drop, refl, arith}
use Rattle.starts.specs.Fronts.{begins}

pub begins_more : {X : Type 0} (p : X → Bool) (ps : List (X → Bool)) (ts : List X) (d : X) → 1 ≤ length ts → p (get_or ts 0 d) ≡ true → begins ps (drop 1 ts) ≡ true
    → begins (p ∷ ps) ts ≡ true
begins_more p ps [] d le a b = absurd (omega arith)
begins_more p ps (x ∷ ts) d le a b = rw (a, b)

pub begins_two : {X : Type 0} (p q : X → Bool) (ts : List X) (d : X) → 2 ≤ length ts → p (get_or ts 0 d) ≡ true → q (get_or ts 1 d) ≡ true → begins (p ∷ q ∷ []) ts ≡ true
begins_two p q [] d le a b = absurd (omega arith)
begins_two p q (x ∷ ts) d le a b = begins_more p (q ∷ []) (x ∷ ts) d (omega arith) a (begins_more q [] ts d (omega arith) b refl)

pub begins_three : {X : Type 0} (p q s : X → Bool) (ts : List X) (d : X) → 3 ≤ length ts → p (get_or ts 0 d) ≡ true → q (get_or ts 1 d) ≡ true → s (get_or ts 2 d) ≡ true
    → begins (p ∷ q ∷ s ∷ []) ts ≡ true
begins_three p q s [] d le a b e = absurd (omega arith)
begins_three p q s (x ∷ ts) d le a b e = begins_more p (q ∷ s ∷ []) (x ∷ ts) d (omega arith) a (begins_two q s ts d (omega arith) b e)
