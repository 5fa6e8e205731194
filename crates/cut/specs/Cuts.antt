-- A cut of CSV or DSV is the first field of the page, and the page's fields meet the laws of cutters.
-- Assumes nothing.
use Rattle.std.specs.Prelude.{◌≡◌, ℕ, ◌+◌, ◌≤◌, Bool, true, false, cond, ◌&&◌, ◌||◌, List, [], ◌∷◌, ◌++◌, map, length, take, Some, None, Option, refl}
use Rattle.std.proofs.Common.{sym, ap, subst, ◌∙◌, ⊎_elim, arith}
use Rattle.std.specs.Option.{option_to_list}
use Rattle.std.specs.List.{AllByRecursion}
use Rattle.std.proofs.lemmas.List.{length-map, length-append}
use Rattle.std.proofs.lemmas.Bool.{cond-true, cond-false, cases_Bool}
use Rattle.sheet.specs.Left.{Left, left, left_at, piece_of}
use Rattle.sheet.specs.View.{SheetView}
use Rattle.sheet.specs.declared.records.Position.{Position}
use Rattle.cut.specs.Answer.{Tells, FirstIs, Fits}
use Rattle.cut.specs.Blanks.{is_blank, skip, newline_next, keep, trim}
use Rattle.cut.specs.Field.{Field}
use Rattle.cut.specs.Fields.{Begin, at_line, open_note, notes_of, finish, front_field, no_field, next_field, fields, first_note, ToldField}
use Rattle.cut.specs.Insides.{InsideLeft}
use Rattle.cut.specs.Moves.{AllMove}
use Rattle.cut.specs.Raw.{RawCell, Next, cells_of}
use Rattle.starts.specs.Weight.{weight}
use Rattle.cut.specs.Scanned.{Scanned, head_of, note_at}
use Rattle.cut.specs.declared.machine.Close.{Close}
use Rattle.cut.specs.declared.machine.Role.{Role}
use Rattle.cut.specs.declared.machine.State.{State}
use Rattle.cut.specs.declared.scan.Found.{Found}
use Rattle.cut.specs.declared.types.Cut.{Cut}
use Rattle.cut.specs.declared.types.Note.{Note}
use Rattle.cut.specs.FieldsLess.{next_less}
use Rattle.cut.specs.InsidesLemmas.{field_all, trim_all, pieces_all, left_all}
use Rattle.cut.specs.PagesLemmas.{cells_none, cells_some, cells_all}
use Rattle.cut.specs.Skips.{skip_all}

-- what is kept is a front part
pub take_trim : (ts : List Left) → take (length (trim ts)) ts ≡ trim ts
take_trim [] = refl
take_trim (t ∷ ts) = go (trim ts) (take_trim ts)
  where
    bare : (b : Bool) → take (length (cond b [] (t ∷ []))) (t ∷ ts) ≡ cond b [] (t ∷ [])
    bare true = refl
    bare false = refl

    go : (us : List Left) → take (length us) ts ≡ us → take (length (keep t us)) (t ∷ ts) ≡ keep t us
    go [] h = bare (is_blank t)
    go (u ∷ us) h = ap (λ (x : List Left). t ∷ x) h

-- the pieces written are those of the field, trimmed
pub pieces_are : (n : ℕ) (ts : List Left) → n ≡ length (trim ts) → map piece_of (take n ts) ≡ map piece_of (trim ts)
pieces_are n ts h = ap (λ (k : ℕ). map piece_of (take k ts)) h ∙ ap (map piece_of) (take_trim ts)

pub pieces_many : (n : ℕ) (ts : List Left) → n ≡ length (trim ts) → n ≡ length (map piece_of (trim ts))
pieces_many n ts h = h ∙ sym (length-map (trim ts) piece_of)

notes_length : (q : Option ℕ) (f : Field) → length (notes_of q f) ≡ length f.notes + length (option_to_list (open_note q f.unclosed))
notes_length q f =
    let a = length-append (map (note_at 3) f.notes) (option_to_list (open_note q f.unclosed)) in
    let m = length-map f.notes (note_at 3) in
    omega arith

head_of_notes : (ns : List ℕ) (o : Option Note) → head_of (map (note_at 3) ns ++ option_to_list o) ≡ first_note (head_of ns) o
head_of_notes [] None = refl
head_of_notes [] (Some x) = refl
head_of_notes (n ∷ ns) o = refl

-- what was found of a field, told, is what its cell has
pub field_tells : (v : SheetView) (i : ℕ) (skipped : Bool) (q : Option ℕ) (found : Found) (cut : Cut) (f : Field) → ToldField v i skipped q found cut → Scanned v found f → Tells cut (finish i skipped q f).cell
field_tells v i skipped q found cut f t s = record {
  first = t.start;
  specifier = t.specifier;
  line_end = t.line_end ∙ ap (λ (b : Bool). skipped || (b || at_line found.close)) s.line ∙ ap (λ (c : Close). skipped || (f.line || at_line c)) s.close;
  blank_after = t.blank_after ∙ ap (λ (c : Close). at_line c && newline_next (left_at v found.rest)) s.close ∙ ap (λ (x : List Left). at_line f.close && newline_next x) s.rest;
  blank_inside = t.blank_inside;
  notes = t.notes ∙ ap (λ (n : ℕ). n + length (option_to_list (open_note q found.unclosed))) s.notes ∙ ap (λ (b : Bool). length f.notes + length (option_to_list (open_note q b))) s.unclosed ∙ sym (notes_length q f);
  first_note = t.head_note ∙ ap (λ (o : Option ℕ). first_note o (open_note q found.unclosed)) s.noted ∙ ap (λ (b : Bool). first_note (head_of f.notes) (open_note q b)) s.unclosed ∙ sym (head_of_notes f.notes (open_note q f.unclosed));
}

pub tells_at : (cut : Cut) (f : Field) (i i' : ℕ) (s s' : Bool) (q q' : Option ℕ) → i ≡ i' → s ≡ s' → q ≡ q' → Tells cut (finish i s q f).cell → Tells cut (finish i' s' q' f).cell
tells_at cut f i i' s s' q q' a b c t =
    subst (λ (x : Option ℕ). Tells cut (finish i' s' x f).cell) c (subst (λ (x : Bool). Tells cut (finish i' x q f).cell) b (subst (λ (x : ℕ). Tells cut (finish x s q f).cell) a t))

module _ (role : State → List Left → Role) (moves : AllMove role) (begin : List Left → Begin) (shorter : (ts : List Left) → weight (begin ts).left ≤ weight ts) (v : SheetView) where
  abbrev pub front : Position → Next
  front p = front_field role begin (length v.tokens) p.separated (left v p.token p.offset)

  pub no_fields : (p : Position) → no_field p.separated (left v p.token p.offset) ≡ true → fields role begin v p ≡ []
  no_fields p e = cells_none (next_field role begin (length v.tokens)) p.separated (left v p.token p.offset) (cond-true (no_field p.separated (left v p.token p.offset)) _ _ e)

  -- the field in front, then those of the position behind it
  pub more_fields : (p : Position) → no_field p.separated (left v p.token p.offset) ≡ false
      → (q : Position) → q.separated ≡ (front p).separated → left v q.token q.offset ≡ (front p).left → fields role begin v p ≡ (front p).cell ∷ fields role begin v q
  more_fields p e q s l =
      cells_some (next_field role begin (length v.tokens)) (next_less role moves begin shorter (length v.tokens)) p.separated (left v p.token p.offset) (front p)
      (cond-false (no_field p.separated (left v p.token p.offset)) _ _ e)
      ∙ ap (λ (x : List RawCell). (front p).cell ∷ x)
      (ap (λ (b : Bool). cells_of (next_field role begin (length v.tokens)) b (front p).left) (sym s) ∙ ap (cells_of (next_field role begin (length v.tokens)) q.separated) (sym l))

  pub first_is : (p : Position) → FirstIs v p (fields role begin v p)
  first_is p =
      ⊎_elim
      (λ e. subst (FirstIs v p) (sym (no_fields p e)) tt)
      (λ e.
      subst (FirstIs v p)
      (sym (cells_some (next_field role begin (length v.tokens)) (next_less role moves begin shorter (length v.tokens)) p.separated (left v p.token p.offset) (front p) (cond-false (no_field p.separated (left v p.token p.offset)) _ _ e)))
      refl)
      (cases_Bool (no_field p.separated (left v p.token p.offset)))

  module _ (insides : (ts : List Left) → AllByRecursion (InsideLeft v) ts → AllByRecursion (InsideLeft v) (begin ts).left) where
    front_fits : (s : Bool) (ts : List Left) → AllByRecursion (InsideLeft v) ts
        → Fits v (front_field role begin (length v.tokens) s ts).cell × AllByRecursion (InsideLeft v) (front_field role begin (length v.tokens) s ts).left
    front_fits s ts h =
        let b = begin (skip s ts) in
        let f = field_all v role b.state b.left (insides (skip s ts) (skip_all (InsideLeft v) s ts h)) in
        (record { inside = pieces_all v _ (trim_all (InsideLeft v) _ f.0); columns = omega arith; rows = omega arith }, f.1)

    step : (s : Bool) (ts : List Left) (c : Next) → next_field role begin (length v.tokens) s ts ≡ Some c → AllByRecursion (InsideLeft v) ts → Fits v c.cell × AllByRecursion (InsideLeft v) c.left
    step s ts c e h = go (no_field s ts) e
      where
        go : (b : Bool) → cond b None (Some (front_field role begin (length v.tokens) s ts)) ≡ Some c → Fits v c.cell × AllByRecursion (InsideLeft v) c.left
        go true q = let z : ◌≡◌ {A = ℕ} 0 1 = cc in absurd (omega arith)
        go false q =
            let same : front_field role begin (length v.tokens) s ts ≡ c = cc in
            subst (λ (x : Next). Fits v x.cell × AllByRecursion (InsideLeft v) x.left) same (front_fits s ts h)

    pub fields_fit : (p : Position) → AllByRecursion (Fits v) (fields role begin v p)
    fields_fit p = cells_all (next_field role begin (length v.tokens)) (AllByRecursion (InsideLeft v)) (Fits v) step _ p.separated (left v p.token p.offset) (left_all v p.token p.offset)
