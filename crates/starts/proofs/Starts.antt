-- What holds of every start: it takes something, it keeps what holds of the tokens, and its specifier is in bounds.
-- Assumes nothing.
use Rattle.std.proofs.Common.{◌≡◌, ℕ, zero, suc, ◌+◌, ◌<◌, ◌≤◌, Bool, true, false, cond, ◌&&◌, ltb, List, [], ◌∷◌, length, drop, Some, None, Option, sym, refl, ap, ◌∙◌, subst, arith}
use Rattle.std.specs.List.{AllByRecursion}
use Rattle.std.specs.Option.{option_map}
use Rattle.std.proofs.lemmas.List.{drop-drop, length-drop}
use Rattle.std.proofs.lemmas.Bool.{and_parts, ltb-true}
use Rattle.styles.specs.Styles.{number_of}
use Rattle.styles.specs.declared.Style.{Style}
use Rattle.styles.specs.declared.Style.TheVariants.{Default, Emphasis, Header, Monospace, Strong, Literal, AsciiDoc}
use Rattle.sheet.specs.Left.{Left, back_of, behind_bytes, behind_token}
use Rattle.starts.specs.Fronts.{begins, in_front, dot, has_byte, single, just}
use Rattle.starts.specs.Parts.{Said, taking, number_at, span_of, span_by, factor_form, factor_part, column_form, column_span, row_form, row_span, both_form, both_span, span_part, alignment_of, alignment_part, vertical_of, vertical_part, parts_of, written}
use Rattle.starts.specs.Start.{Started, start_of, start_behind, start_by, style_in, specified, nothing_written, columns_of, rows_of, short_start, long_start, KnownStyle}
use Rattle.starts.specs.Weight.{weight}
use Rattle.starts.specs.declared.parts.Span.{Span}

-- a start is one of four: at the separator, behind parts with no style, with a short style Word, with a long one
module _ (Q : Started → Type 0) where
  same : (s t : Started) → Some t ≡ Some s → Q t → Q s
  same s t e q = let z : t ≡ s = cc in subst Q z q

  tested : (b : Bool) (s t : Started) → cond b (Some t) None ≡ Some s → (b ≡ true → Q t) → Q s
  tested true s t e q = same s t e (q refl)
  tested false s t e q = let z : ◌≡◌ {A = ℕ} 0 1 = cc in absurd (omega arith)

  module _ (sep : ℕ) (p : Said)
      (plain_one : begins (just sep ∷ []) p.left ≡ true → Q (record { specifier = specified p.parts None; left = behind_token p.left }))
      (short_one : (n : Style) → in_front style_in p.left ≡ Some n → begins (single ∷ []) p.left ≡ true → begins (just sep ∷ []) (behind_token p.left) ≡ true
      → Q (record { specifier = specified p.parts (Some n); left = behind_token (behind_token p.left) }))
      (long_one : (n : Style) → in_front style_in p.left ≡ Some n → begins (has_byte sep 1 ∷ []) p.left ≡ true
      → Q (record { specifier = specified p.parts (Some n); left = behind_bytes 2 p.left })) where
    styled : (n : Style) (b : Bool) (s : Started) → in_front style_in p.left ≡ Some n → begins (single ∷ []) p.left ≡ b → cond b (short_start sep p n) (long_start sep p n) ≡ Some s → Q s
    styled n true s e f h = tested (begins (just sep ∷ []) (behind_token p.left)) s _ h (short_one n e f)
    styled n false s e f h =
        tested (written p.parts && begins (has_byte sep 1 ∷ []) p.left) s _ h (λ t. long_one n e (and_parts (written p.parts) _ t).1)

    by_style : (o : Option Style) (s : Started) → in_front style_in p.left ≡ o → start_by sep p o ≡ Some s → Q s
    by_style None s e h = tested (written p.parts && begins (just sep ∷ []) p.left) s _ h (λ t. plain_one (and_parts (written p.parts) _ t).1)
    by_style (Some n) s e h = styled n (begins (single ∷ []) p.left) s e refl h

    one_of : (ts : List Left) (s : Started) → parts_of ts ≡ p
        → (begins (has_byte sep 0 ∷ []) ts ≡ true → Q (record { specifier = nothing_written; left = behind_bytes 1 ts })) → start_of sep ts ≡ Some s → Q s
    one_of ts s e at_once h = go (begins (has_byte sep 0 ∷ []) ts) refl h
      where
        go : (b : Bool) → begins (has_byte sep 0 ∷ []) ts ≡ b → cond b (Some (record { specifier = nothing_written; left = behind_bytes 1 ts })) (start_behind sep (parts_of ts)) ≡ Some s → Q s
        go true f k = same s _ k (at_once f)
        go false f k = by_style (in_front style_in p.left) s refl (sym (ap (start_behind sep) e) ∙ k)

-- the parts take whole tokens from the front
taking_drops : {X : Type 0} (x : Option X) (n : ℕ) (ts : List Left) → (k : ℕ) × ((taking x n ts).left ≡ drop k ts)
taking_drops None n ts = (0, refl)
taking_drops (Some x) n ts = (n, refl)

span_drops : (c r b : Option Span) (ts : List Left) → (k : ℕ) × ((span_by c r b ts).left ≡ drop k ts)
span_drops (Some s) r b ts = (2, refl)
span_drops None (Some s) b ts = (3, refl)
span_drops None None b ts = taking_drops b 4 ts

parts_drop : (ts : List Left) → (k : ℕ) × ((parts_of ts).left ≡ drop k ts)
parts_drop ts =
    let f = taking_drops (cond (factor_form ts) (number_at 0 ts) None) 2 ts in
    let ts1 = (factor_part ts).left in
    let s = span_drops (column_span ts1) (row_span ts1) (both_span ts1) ts1 in
    let ts2 = (span_part ts1).left in
    let a = taking_drops (in_front alignment_of ts2) 1 ts2 in
    let ts3 = (alignment_part ts2).left in
    let v = vertical_drops ts3 in (
      f.0 + s.0 + a.0 + v.0,
      v.1 ∙ ap (drop v.0) (a.1 ∙ ap (drop a.0) (s.1 ∙ ap (drop s.0) f.1 ∙ drop-drop s.0 f.0 ts) ∙ drop-drop a.0 (f.0 + s.0) ts) ∙ drop-drop v.0 (f.0 + s.0 + a.0) ts,
    )
  where
    vertical_drops : (ts : List Left) → (k : ℕ) × ((vertical_part ts).left ≡ drop k ts)
    vertical_drops ts = taking_drops (cond (begins (dot ∷ []) ts) (in_front vertical_of (drop 1 ts)) None) 2 ts

drop_lighter : (n : ℕ) (ts : List Left) → weight (drop n ts) ≤ weight ts
drop_lighter zero ts = omega arith
drop_lighter (suc n) [] = omega arith
drop_lighter (suc n) (t ∷ ts) = let h = drop_lighter n ts in omega arith

parts_lighter : (ts : List Left) → weight (parts_of ts).left ≤ weight ts
parts_lighter ts =
    let d = parts_drop ts in
    let h = drop_lighter d.0 ts in
    subst (λ (x : List Left). weight x ≤ weight ts) (sym d.1) h

token_lighter : (q : Left → Bool) (ts : List Left) → begins (q ∷ []) ts ≡ true → weight (behind_token ts) < weight ts
token_lighter q [] h = let z : ◌≡◌ {A = ℕ} 0 1 = cc in absurd (omega arith)
token_lighter q (t ∷ ts) h = omega arith

bytes_lighter : (q : Left → Bool) (n : ℕ) (ts : List Left) → begins (q ∷ []) ts ≡ true → weight (behind_bytes (suc n) ts) < weight ts
bytes_lighter q n [] h = let z : ◌≡◌ {A = ℕ} 0 1 = cc in absurd (omega arith)
bytes_lighter q n (t ∷ ts) h = go (ltb (suc n) (length t.bytes)) refl
  where
    go : (b : Bool) → ltb (suc n) (length t.bytes) ≡ b → weight (cond b (back_of (suc n) t ∷ ts) ts) < weight (t ∷ ts)
    go true e = let l = ltb-true (suc n) (length t.bytes) e in let d = length-drop (suc n) t.bytes in omega arith
    go false e = omega arith

-- A start takes something.
pub start_takes : (sep : ℕ) (ts : List Left) (s : Started) → start_of sep ts ≡ Some s → weight s.left < weight ts
start_takes sep ts s h =
    let p = parts_of ts in
    let l : weight (parts_of ts).left ≤ weight ts = parts_lighter ts in
    one_of (λ x. weight x.left < weight ts) sep (parts_of ts)
    (λ b. let k = token_lighter (just sep) (parts_of ts).left b in omega arith)
    (λ n e b f. let k = token_lighter single (parts_of ts).left b in let j = token_lighter (just sep) (behind_token (parts_of ts).left) f in omega arith)
    (λ n e b. let k = bytes_lighter (has_byte sep 1) 1 (parts_of ts).left b in omega arith)
    ts s refl (λ b. bytes_lighter (has_byte sep 0) 0 ts b) h

module _ (P : Left → Type 0) (kept : (t : Left) (n : ℕ) → P t → n < length t.bytes → P (back_of n t)) where
  drop_keeps : (n : ℕ) (ts : List Left) → AllByRecursion P ts → AllByRecursion P (drop n ts)
  drop_keeps zero ts h = h
  drop_keeps (suc n) [] h = h
  drop_keeps (suc n) (t ∷ ts) (a, b) = drop_keeps n ts b

  token_keeps : (ts : List Left) → AllByRecursion P ts → AllByRecursion P (behind_token ts)
  token_keeps [] h = h
  token_keeps (t ∷ ts) (a, b) = b

  bytes_keeps : (n : ℕ) (ts : List Left) → AllByRecursion P ts → AllByRecursion P (behind_bytes n ts)
  bytes_keeps n [] h = h
  bytes_keeps n (t ∷ ts) (a, b) = go (ltb n (length t.bytes)) refl
    where
      go : (x : Bool) → ltb n (length t.bytes) ≡ x → AllByRecursion P (cond x (back_of n t ∷ ts) ts)
      go true e = (kept t n a (ltb-true n (length t.bytes) e), b)
      go false e = b

  -- What holds of each token, and of what is left of one behind dropped bytes, holds behind a start.
  pub start_keeps : (sep : ℕ) (ts : List Left) (s : Started) → AllByRecursion P ts → start_of sep ts ≡ Some s → AllByRecursion P s.left
  start_keeps sep ts s all h =
      let d = parts_drop ts in
      let l : AllByRecursion P (parts_of ts).left = subst (λ (x : List Left). AllByRecursion P x) (sym d.1) (drop_keeps d.0 ts all) in
      one_of (λ x. AllByRecursion P x.left) sep (parts_of ts)
      (λ b. token_keeps (parts_of ts).left l)
      (λ n e b f. token_keeps (behind_token (parts_of ts).left) (token_keeps (parts_of ts).left l))
      (λ n e b. bytes_keeps 2 (parts_of ts).left l)
      ts s refl (λ b. bytes_keeps 1 ts all) h

-- a span that is there is of at least one column and one row
Wide : Option Span → Type 0
Wide o = (1 ≤ columns_of o) × (1 ≤ rows_of o)

wide_of : (c r : Option ℕ) → Wide (span_of c r)
unfolding Wide
wide_of None r = (omega arith, omega arith)
wide_of (Some c) None = (omega arith, omega arith)
wide_of (Some c) (Some r) = (omega arith, omega arith)

wide_if : (b : Bool) (o : Option Span) → Wide o → Wide (cond b o None)
unfolding Wide
wide_if true o w = w
wide_if false o w = (omega arith, omega arith)

wide_taking : (n : ℕ) (ts : List Left) (b : Option Span) → Wide b → Wide (taking b n ts).said
wide_taking n ts None w = w
wide_taking n ts (Some s) w = w

wide_by : (c r b : Option Span) (ts : List Left) → Wide c → Wide r → Wide b → Wide (span_by c r b ts).said
wide_by (Some s) r b ts x y z = x
wide_by None (Some s) b ts x y z = y
wide_by None None b ts x y z = wide_taking 4 ts b z

wide_part : (ts : List Left) → Wide (span_part ts).said
wide_part ts =
    wide_by (column_span ts) (row_span ts) (both_span ts) ts (wide_if (column_form ts) _ (wide_of (number_at 0 ts) (Some 1))) (wide_if (row_form ts) _ (wide_of (Some 1) (number_at 1 ts)))
    (wide_if (both_form ts) _ (wide_of (number_at 0 ts) (number_at 2 ts)))

-- The spans of a start are at least 1.
pub start_spans : (sep : ℕ) (ts : List Left) (s : Started) → start_of sep ts ≡ Some s → (1 ≤ s.specifier.columns) × (1 ≤ s.specifier.rows)
unfolding Wide
start_spans sep ts s h =
    let w = wide_part (factor_part ts).left in
    one_of (λ x. (1 ≤ x.specifier.columns) × (1 ≤ x.specifier.rows)) sep (parts_of ts) (λ b. w) (λ n e b f. w) (λ n e b. w) ts s refl (λ b. (omega arith, omega arith)) h

six_of : (o : Option Style) → KnownStyle (option_map number_of o)
six_of None = tt
six_of (Some Default) = omega arith
six_of (Some Emphasis) = omega arith
six_of (Some Header) = omega arith
six_of (Some Monospace) = omega arith
six_of (Some Strong) = omega arith
six_of (Some Literal) = omega arith
six_of (Some AsciiDoc) = omega arith

-- The style of a start is a known one.
pub start_style : (sep : ℕ) (ts : List Left) (s : Started) → start_of sep ts ≡ Some s → KnownStyle s.specifier.style
start_style sep ts s h =
    one_of (λ x. KnownStyle x.specifier.style) sep (parts_of ts) (λ b. tt) (λ n e b f. six_of (Some n)) (λ n e b. six_of (Some n)) ts s refl (λ b. tt) h
