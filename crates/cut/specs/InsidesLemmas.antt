-- What is left on a sheet, and what a cell takes of it, lies inside tokens.
-- Assumes nothing.
use Rattle.std.specs.Prelude.{◌≡◌, ℕ, zero, suc, ◌+◌, ◌-◌, ◌<◌, ◌≤◌, Bool, true, false, cond, List, [], ◌∷◌, map, length, drop, is_some, Some, None, Option, nat_le, nat_lt, refl}
use Rattle.std.proofs.Common.{sym, ap, ◌∙◌, arith, length-drop, length-take}
use Rattle.std.specs.List.{slice_get, AllByRecursion}
use Rattle.std.proofs.lemmas.List.{drop-drop}
use Rattle.std.proofs.lemmas.Bool.{ltb-true, leb-true, le-leb}
use Rattle.sheet.specs.Left.{Left, token_from, wholes, left_from, left, behind_bytes, back_of, piece_of}
use Rattle.sheet.specs.Sound.{text_of}
use Rattle.sheet.specs.View.{SheetView, if_inside}
use Rattle.sheet.specs.declared.records.Piece.{Piece}
use Rattle.sheet.specs.declared.records.Token.{Token}
use Rattle.cut.specs.Blanks.{is_blank, keep, trim}
use Rattle.cut.specs.Field.{field, front_of}
use Rattle.cut.specs.Insides.{Inside, InsideLeft}
use Rattle.cut.specs.declared.machine.Role.{Role}
use Rattle.cut.specs.declared.machine.Role.TheVariants.{EndsLine, Separates, Starts, Splits, Drops, Takes, Notes}
use Rattle.cut.specs.declared.machine.State.{State}
use Rattle.cut.specs.declared.machine.State.TheVariants.{Plain}
use Rattle.cut.specs.Scans.{by_role}

some_if : (b : Bool) (t : Token) → is_some (cond b (Some t) None) ≡ b
some_if true t = refl
some_if false t = refl

inside_by : (p q : Piece) (o : Option Token) → q.offset + q.length ≤ p.offset + p.length → is_some (if_inside p o) ≡ true → is_some (if_inside q o) ≡ true
inside_by p q None l h = h
inside_by p q (Some t) l h =
    let k = leb-true (p.offset + p.length) t.length (sym (some_if (nat_le (p.offset + p.length) t.length) t) ∙ h) in
    some_if (nat_le (q.offset + q.length) t.length) t ∙ le-leb (q.offset + q.length) t.length (omega arith)

module _ (v : SheetView) (n : ℕ) (t : Left) (h : InsideLeft v t) where
  -- the rest of a token behind some of its bytes lies inside it
  pub back_inside : n < length t.bytes → InsideLeft v (back_of n t)
  back_inside l = let d = length-drop n t.bytes in inside_by (piece_of t) (piece_of (back_of n t)) (slice_get v.tokens t.number) (omega arith) h

  -- and so does its front
  pub front_inside : InsideLeft v (front_of n t)
  front_inside = let d = length-take n t.bytes in inside_by (piece_of t) (piece_of (front_of n t)) (slice_get v.tokens t.number) (omega arith) h

pub behind_all : (v : SheetView) (n : ℕ) (t : Left) (ts : List Left) → AllByRecursion (InsideLeft v) (t ∷ ts) → AllByRecursion (InsideLeft v) (behind_bytes n (t ∷ ts))
behind_all v n t ts h = go (nat_lt n (length t.bytes)) refl
  where
    go : (b : Bool) → nat_lt n (length t.bytes) ≡ b → AllByRecursion (InsideLeft v) (cond b (back_of n t ∷ ts) ts)
    go true e = (back_inside v n t h.0 (ltb-true n (length t.bytes) e), h.1)
    go false e = h.1

-- what a field takes and what it leaves
pub field_all : (v : SheetView) (role : State → List Left → Role) (s : State) (ts : List Left) → AllByRecursion (InsideLeft v) ts
    → AllByRecursion (InsideLeft v) (field role s ts).texts × AllByRecursion (InsideLeft v) (field role s ts).left
field_all v role s [] h = (tt, tt)
field_all v role s (t ∷ ts) h = go (λ s'. field_all v role s' ts h.1) (role s (t ∷ ts))
  where
    go : ((s' : State) → AllByRecursion (InsideLeft v) (field role s' ts).texts × AllByRecursion (InsideLeft v) (field role s' ts).left) → (r : Role)
        → AllByRecursion (InsideLeft v) (by_role role t ts r).texts × AllByRecursion (InsideLeft v) (by_role role t ts r).left
    go rest EndsLine = (tt, h.1)
    go rest Separates = (tt, behind_all v 1 t ts h)
    go rest Starts = (tt, h)
    go rest (Splits n m) = ((front_inside v n t h.0, tt), behind_all v m t ts h)
    go rest (Drops s') = rest s'
    go rest (Takes s' line) = ((h.0, (rest s').0), (rest s').1)
    go rest Notes = rest Plain

pub trim_all : (P : Left → Type 0) (ts : List Left) → AllByRecursion P ts → AllByRecursion P (trim ts)
trim_all P [] h = h
trim_all P (t ∷ ts) h = go (trim ts) (trim_all P ts h.1)
  where
    bare : (b : Bool) → AllByRecursion P (cond b [] (t ∷ []))
    bare true = tt
    bare false = (h.0, tt)

    go : (us : List Left) → AllByRecursion P us → AllByRecursion P (keep t us)
    go [] k = bare (is_blank t)
    go (u ∷ us) k = (h.0, k)

pub pieces_all : (v : SheetView) (ts : List Left) → AllByRecursion (InsideLeft v) ts → AllByRecursion (Inside v) (map piece_of ts)
pieces_all v [] h = tt
pieces_all v (t ∷ ts) h = (h.0, pieces_all v ts h.1)

-- a token of the list, from an offset inside it on
token_inside : (v : SheetView) (i o : ℕ) (t : Token) → slice_get v.tokens i ≡ Some t → o ≤ t.length → InsideLeft v (token_from v i o t)
token_inside v i o t e l =
    let bytes = drop (t.start + o) (text_of v.page v.replacement t.replaced) in
    let n = length-take (t.length - o) (drop (t.start + o) (text_of v.page v.replacement t.replaced)) in
    ap (λ (x : Option Token). is_some (if_inside (piece_of (token_from v i o t)) x)) e
    ∙ some_if (nat_le (o + length (token_from v i o t).bytes) t.length) t
    ∙ le-leb (o + length (token_from v i o t).bytes) t.length (omega arith)

nth_front : {X : Type 0} (i : ℕ) (xs us : List X) (t : X) → drop i xs ≡ t ∷ us → slice_get xs i ≡ Some t
nth_front {X = X} zero xs us t e = ap (λ (ys : List X). slice_get ys 0) e
nth_front (suc i) [] us t e = let z : ◌≡◌ {A = ℕ} 0 1 = cc in absurd (omega arith)
nth_front (suc i) (x ∷ xs) us t e = nth_front i xs us t e

wholes_all : (v : SheetView) (i : ℕ) (ts : List Token) → drop i v.tokens ≡ ts → AllByRecursion (InsideLeft v) (wholes v i ts)
wholes_all v i [] e = tt
wholes_all v i (t ∷ ts) e =
    (token_inside v i 0 t (nth_front i v.tokens ts t e) (omega arith), wholes_all v (i + 1) ts (sym (drop-drop 1 i v.tokens) ∙ ap (drop 1) e))

-- what is left at a place
pub left_all : (v : SheetView) (i o : ℕ) → AllByRecursion (InsideLeft v) (left v i o)
left_all v i o = go (drop i v.tokens) refl
  where
    pick : (t : Token) (ts : List Token) → drop i v.tokens ≡ t ∷ ts → (b : Bool) → nat_lt o t.length ≡ b → AllByRecursion (InsideLeft v) (cond b (token_from v i o t ∷ wholes v (i + 1) ts) [])
    pick t ts e true l =
        let k = ltb-true o t.length l in
        (token_inside v i o t (nth_front i v.tokens ts t e) (omega arith), wholes_all v (i + 1) ts (sym (drop-drop 1 i v.tokens) ∙ ap (drop 1) e))
    pick t ts e false l = tt

    go : (ts : List Token) → drop i v.tokens ≡ ts → AllByRecursion (InsideLeft v) (left_from v i o ts)
    go [] e = tt
    go (t ∷ ts) e = pick t ts e (nat_lt o t.length) refl
