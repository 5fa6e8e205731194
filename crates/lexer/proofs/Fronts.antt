-- The token at the front: a callout, a run, or one byte.
-- Assumes nothing.
use Rattle.std.proofs.Common.{◌≡◌, ℕ, ◌<◌, ◌≤◌, Bool, true, false, cond, eqb, List, [], ◌∷◌, length, get_or, Some, None, Option, unwrap_or, refl, arith}
use Rattle.std.proofs.lemmas.Grind.{common_steps}
use Rattle.std.proofs.lemmas.List.Sums.{prefix_len-le-length}
use Rattle.lexer.specs.Kinds.{kind_of, joins}
use Rattle.lexer.specs.Front.{run, callout, plain_length, front_length}

-- a callout has a byte, and lies in the text
callout_within : (bs : List ℕ) (m : ℕ) → callout bs ≡ Some m → (0 < m) × (m ≤ length bs)
callout_within bs m e = grind (arith, common_steps)

-- a text that begins with a byte of a kind begins with a run of it
run_some : (bs : List ℕ) → 0 < length bs → 0 < run (kind_of (get_or bs 0 0)) bs
run_some [] h = h
run_some (b ∷ bs) h = grind (arith, common_steps)

plain_bounds : (bs : List ℕ) → 0 < length bs → (0 < plain_length (kind_of (get_or bs 0 0)) bs) × (plain_length (kind_of (get_or bs 0 0)) bs ≤ length bs)
plain_bounds bs h = go (joins (kind_of (get_or bs 0 0))) (run_some bs h) (prefix_len-le-length (λ b. eqb (kind_of b) (kind_of (get_or bs 0 0))) bs)
  where
    go : (t : Bool) → 0 < run (kind_of (get_or bs 0 0)) bs → run (kind_of (get_or bs 0 0)) bs ≤ length bs
        → (0 < cond t (run (kind_of (get_or bs 0 0)) bs) 1) × (cond t (run (kind_of (get_or bs 0 0)) bs) 1 ≤ length bs)
    go true p q = (p, q)
    go false p q = (omega arith, omega arith)

-- the token at the front of a text that is not empty has a byte, and lies in the text
pub front_bounds : (bs : List ℕ) → 0 < length bs → (0 < front_length bs) × (front_length bs ≤ length bs)
front_bounds bs h = go (callout bs) (callout_within bs) (plain_bounds bs h)
  where
    plain : ℕ
    plain = plain_length (kind_of (get_or bs 0 0)) bs

    go : (o : Option ℕ) → ((m : ℕ) → o ≡ Some m → (0 < m) × (m ≤ length bs)) → (0 < plain) × (plain ≤ length bs)
        → (0 < unwrap_or o plain) × (unwrap_or o plain ≤ length bs)
    go None f p = p
    go (Some m) f p = f m refl
