-- How styles are kept as columns are added, and how entries are cut from the front of a list.
-- Assumes nothing.
use Rattle.std.proofs.Common.{◌≡◌, ℕ, zero, suc, ◌+◌, ◌-◌, ◌^◌, ◌<◌, ◌≤◌, min, List, [], ◌∷◌, ◌++◌, length, take, replicate, sym, refl, ap, ◌∙◌, ⊎_elim, length-append, arith}
use lib.Seq.{take-append-add}
use Rattle.std.specs.List.{flat_map}
use Rattle.std.proofs.lemmas.Grind.{flat_map-append}
use Rattle.document.specs.declared.columns.Columns.{Columns}
use Rattle.document.specs.Columns.{HasStyles, AddsStyles, entry_styles}
use Rattle.std.proofs.lemmas.List.{take_min, length-replicate, length-take, length-drop, length-take-le, take_all, take-replicate, take-append-le, append-nil}
use Rattle.std.proofs.lemmas.Bool.{cases_lt}
use Rattle.std.proofs.lemmas.Slice.{take-put_mid}
use borrow.Rule.Slice.PartMut.{mid_of, put_mid, same_len_mid}

-- a front of one style alone
take_same : {A : Type 0} (m n : ℕ) (y : A) → take m (replicate n y) ≡ replicate (min m n) y
take_same m n y = ⊎_elim
    (λ (h : m < n). let e : m ≡ min m n = omega arith in take-replicate m n y (omega arith) ∙ ap (λ (k : ℕ). replicate k y) e)
    (λ (h : n ≤ m). let e : n ≡ min m n = omega arith in take_all m (replicate n y) (omega (arith, length-replicate n y)) ∙ ap (λ (k : ℕ). replicate k y) e)
    (cases_lt m n)

-- so many more of one style behind the first of 64
pub spread : {A : Type 0} (count times : ℕ) (style : A) (old : List A) → length old ≡ 64
    → take 64 (take count old ++ replicate times style) ≡ take (min count 64) old ++ replicate (min (count + times) 64 - min count 64) style
spread {A} count times style old long = ⊎_elim
    (λ (h : count < 64).
    let size : length (take count old) ≡ count = length-take-le count old (omega arith) in
    let room : 64 ≡ length (take count old) + (64 - count) = omega arith in
    let first : count ≡ min count 64 = omega arith in
    let more : min (64 - count) times ≡ min (count + times) 64 - min count 64 = omega arith in
    ap (λ (n : ℕ). take n (take count old ++ replicate times style)) room
    ∙ take-append-add (take count old) (replicate times style) (64 - count)
    ∙ ap (λ (l : List A). take count old ++ l) (take_same (64 - count) times style)
    ∙ ap (λ (n : ℕ). take n old ++ replicate (min (64 - count) times) style) first
    ∙ ap (λ (n : ℕ). take (min count 64) old ++ replicate n style) more)
    (λ (h : 64 ≤ count).
    let whole : take count old ≡ old = take_all count old (omega arith) in
    let first : 64 ≡ min count 64 = omega arith in
    let none : 0 ≡ min (count + times) 64 - min count 64 = omega arith in
    ap (λ (l : List A). take 64 (l ++ replicate times style)) whole
    ∙ take-append-le 64 old (replicate times style) (omega arith)
    ∙ sym (append-nil (take 64 old))
    ∙ ap (λ (n : ℕ). take n old ++ []) first
    ∙ ap (λ (n : ℕ). take (min count 64) old ++ replicate n style) none)
    (cases_lt count 64)

-- a front of a front with more behind it
pub take_front : {A : Type 0} (n : ℕ) (xs ys : List A) → take n (take n xs ++ ys) ≡ take n (xs ++ ys)
take_front zero xs ys = refl
take_front (suc n) [] ys = refl
take_front {A} (suc n) (x ∷ xs) ys = ap (λ (l : List A). x ∷ l) (take_front n xs ys)

-- the styles kept where the places from the first free one on are filled
pub filled : {A : Type 0} (count times count' from to : ℕ) (style : A) (old ys : List A) → length old ≡ 64 → from ≡ min count 64
    → count' ≡ min (count + times) (2 ^ 64 - 1) → to ≡ min count' 64 → ys ≡ replicate (to - from) style
    → take count' (put_mid from (to - from) old ys) ≡ take 64 (take count old ++ replicate times style)
filled {A} count times count' from to style old ys long f n t e =
    let size : length ys ≡ to - from = ap length e ∙ length-replicate (to - from) style in
    let place : to ≡ from + length ys = omega arith in
    let more : to - from ≡ min (count + times) 64 - min count 64 = omega arith in
    let part : length ys ≡ length (mid_of from (to - from) old) =
    simp (length-take, length-drop) (omega (arith, size)) in
    let whole : length (put_mid from (to - from) old ys) ≡ 64 = same_len_mid from (to - from) old ys part ∙ long in
    sym (take_min count' (put_mid from (to - from) old ys))
    ∙ ap (λ (n : ℕ). take (min count' n) (put_mid from (to - from) old ys)) whole
    ∙ ap (λ (n : ℕ). take n (put_mid from (to - from) old ys)) (sym t)
    ∙ take-put_mid from (to - from) old ys to place (omega arith)
    ∙ ap (λ (l : List A). take from old ++ l) e
    ∙ ap (λ (n : ℕ). take from old ++ replicate n style) more
    ∙ ap (λ (n : ℕ). take n old ++ replicate (min (count + times) 64 - min count 64) style) f
    ∙ sym (spread count times style old long)

-- one more entry
pub holds_more : (entries : List (List ℕ)) (entry : List ℕ) (c d : Columns) → HasStyles c (flat_map entry_styles entries)
    → AddsStyles c d (entry_styles entry) → HasStyles d (flat_map entry_styles (entries ++ entry ∷ []))
holds_more entries entry c d h a =
    let all : flat_map entry_styles (entries ++ entry ∷ []) ≡ flat_map entry_styles entries ++ entry_styles entry =
    flat_map-append entry_styles entries (entry ∷ []) ∙ ap (λ (l : List ℕ). flat_map entry_styles entries ++ l) (append-nil (entry_styles entry)) in
    let size : length (flat_map entry_styles (entries ++ entry ∷ [])) ≡ length (flat_map entry_styles entries) + length (entry_styles entry) =
    ap length all ∙ length-append (flat_map entry_styles entries) (entry_styles entry) in
    record {
      count = omega (arith, size, a.count, h.count);
      kept = a.kept ∙ ap (λ (l : List ℕ). take 64 (l ++ entry_styles entry)) h.kept
          ∙ take_front 64 (flat_map entry_styles entries) (entry_styles entry) ∙ ap (take 64) (sym all);
    }
