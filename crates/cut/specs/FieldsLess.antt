-- Fields take something, and what they leave and take lies inside tokens.
-- Assumes nothing.
use Rattle.std.specs.Prelude.{◌≡◌, ℕ, ◌+◌, ◌<◌, ◌≤◌, Bool, true, false, cond, ◌⊎◌, List, [], ◌∷◌, length, Some, None, nat_lt, refl}
use Rattle.std.proofs.Common.{ap, subst, ◌∙◌, inl, inr, ⊎_elim, arith, length-drop}
use Rattle.std.proofs.lemmas.Bool.{ltb-true, and_cases}
use Rattle.sheet.specs.Left.{Left, behind_bytes, back_of}
use Rattle.cut.specs.Blanks.{skip, none}
use Rattle.cut.specs.Field.{Field, field}
use Rattle.cut.specs.Fields.{Begin, at_mark, front_field, no_field, next_field}
use Rattle.cut.specs.Moves.{Moves, AllMove}
use Rattle.cut.specs.Raw.{Next, bound}
use Rattle.starts.specs.Weight.{weight}
use Rattle.cut.specs.declared.machine.Close.{Close}
use Rattle.cut.specs.declared.machine.Close.TheVariants.{End, Line, Mark}
use Rattle.cut.specs.declared.machine.Role.{Role}
use Rattle.cut.specs.declared.machine.Role.TheVariants.{EndsLine, Separates, Starts, Splits, Drops, Takes, Notes}
use Rattle.cut.specs.declared.machine.State.{State}
use Rattle.cut.specs.declared.machine.State.TheVariants.{Plain}
use Rattle.cut.specs.Scans.{by_role}
use Rattle.cut.specs.Skips.{skip_le}

-- behind some bytes there is less
pub behind_less : (n : ℕ) (t : Left) (ts : List Left) → 0 < n → weight (behind_bytes n (t ∷ ts)) + 2 ≤ weight (t ∷ ts)
behind_less n t ts p = go (nat_lt n (length t.bytes)) refl
  where
    go : (b : Bool) → nat_lt n (length t.bytes) ≡ b → weight (cond b (back_of n t ∷ ts) ts) + 2 ≤ weight (t ∷ ts)
    go true e = let l = length-drop n t.bytes in let k = ltb-true n (length t.bytes) e in omega arith
    go false e = omega arith

-- a field leaves less, or the end closes it
abbrev Less : Field → List Left → Type 0
Less f ts = (weight f.left + 2 ≤ weight ts) ⊎ ((f.left ≡ []) × (f.close ≡ End))

less_more : (t : Left) (ts : List Left) (f : Field) → Less f ts → Less f (t ∷ ts)
less_more t ts f (inl l) = inl (omega arith)
less_more t ts f (inr e) = inr e

field_less : (role : State → List Left → Role) → AllMove role → (s : State) (ts : List Left) → Less (field role s ts) ts
field_less role moves s [] = inr (refl, refl)
field_less role moves s (t ∷ ts) = go (λ s'. field_less role moves s' ts) (role s (t ∷ ts)) (moves s (t ∷ ts))
  where
    go : ((s' : State) → Less (field role s' ts) ts) → (r : Role) → Moves r → Less (by_role role t ts r) (t ∷ ts)
    go rest EndsLine m = inl (omega arith)
    go rest Separates m = inl (behind_less 1 t ts (omega arith))
    go rest Starts m = absurd m
    go rest (Splits n k) m = inl (behind_less k t ts m)
    go rest (Drops s') m = less_more t ts (field role s' ts) (rest s')
    go rest (Takes s' line) m = less_more t ts (field role s' ts) (rest s')
    go rest Notes m = less_more t ts (field role Plain ts) (rest Plain)

some_weight : (ts : List Left) → none ts ≡ false → 2 ≤ weight ts
some_weight [] e = let z : ◌≡◌ {A = ℕ} 0 1 = cc in absurd (omega arith)
some_weight (t ∷ ts) e = omega arith

owes : (s : Bool) (ts : List Left) → no_field s ts ≡ false → 0 < bound s ts
owes true ts e = omega arith
owes false ts e =
    let n : none (skip false ts) ≡ false = ⊎_elim (λ p. p) (λ q. let z : ◌≡◌ {A = ℕ} 0 1 = cc in absurd (omega arith)) (and_cases (none (skip false ts)) true e) in
    let w = some_weight (skip false ts) n in
    let l = skip_le false ts in
    omega arith

mark_le : (c : Close) → cond (at_mark c) 1 0 ≤ 1
mark_le End = omega arith
mark_le Line = omega arith
mark_le Mark = omega arith

module _ (role : State → List Left → Role) (moves : AllMove role) (begin : List Left → Begin) (shorter : (ts : List Left) → weight (begin ts).left ≤ weight ts) (count : ℕ) where
  front_less : (s : Bool) (ts : List Left) → no_field s ts ≡ false → bound (front_field role begin count s ts).separated (front_field role begin count s ts).left < bound s ts
  front_less s ts e =
      let b = begin (skip s ts) in
      go (field role b.state b.left) (field_less role moves b.state b.left) (shorter (skip s ts)) (skip_le s ts) (owes s ts e)
    where
      go : (f : Field) → Less f (begin (skip s ts)).left → weight (begin (skip s ts)).left ≤ weight (skip s ts) → weight (skip s ts) ≤ weight ts → 0 < bound s ts → bound (at_mark f.close) f.left < bound s ts
      go f (inl l) x w o = let m = mark_le f.close in omega arith
      go f (inr q) x w o = let z : bound (at_mark f.close) f.left ≡ 0 = ap (λ (c : Close). bound (at_mark c) f.left) q.1 ∙ ap (λ (y : List Left). bound false y) q.0 in omega arith

  -- each field takes something
  pub next_less : (s : Bool) (ts : List Left) (c : Next) → next_field role begin count s ts ≡ Some c → bound c.separated c.left < bound s ts
  next_less s ts c h = go (no_field s ts) refl h
    where
      go : (b : Bool) → no_field s ts ≡ b → cond b None (Some (front_field role begin count s ts)) ≡ Some c → bound c.separated c.left < bound s ts
      go true e q = let z : ◌≡◌ {A = ℕ} 0 1 = cc in absurd (omega arith)
      go false e q =
          let same : front_field role begin count s ts ≡ c = cc in
          subst (λ (x : Next). bound x.separated x.left < bound s ts) same (front_less s ts e)
