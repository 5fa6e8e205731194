-- Starts as the code tells them, and Prefix cells: each takes something, and what it takes lies inside tokens.
-- Assumes nothing.
use Rattle.std.specs.Prelude.{◌≡◌, ℕ, ◌+◌, ◌<◌, ◌≤◌, Bool, true, false, cond, not, ◌&&◌, List, [], ◌∷◌, map, length, is_some, Some, None, Option, ◌==◌, nat_lt, slice_index, refl}
use Rattle.std.proofs.Common.{sym, ap, subst, ◌∙◌, ⊎_elim, arith, length-drop}
use Rattle.std.specs.Option.{option_to_list}
use Rattle.std.specs.List.{AllByRecursion}
use Rattle.std.proofs.lemmas.Bool.{and_parts, cases_Bool, cond_both, cond-false, cond-true, eqb-true, false≢true, ltb-true, not-true}
use Rattle.sheet.specs.Kinds.{word}
use Rattle.sheet.specs.Left.{Left, left, left_at, behind_bytes, back_of, front_number, piece_of, plain}
use Rattle.sheet.specs.View.{SheetView}
use Rattle.sheet.specs.declared.kind.Kind.{Kind as TokenKind}
use Rattle.sheet.specs.declared.records.Place.{Place}
use Rattle.sheet.specs.declared.records.Position.{Position}
use Rattle.starts.specs.Start.{Started, StartIs, nothing_written, start_of}
use Rattle.starts.specs.Weight.{weight}
use Rattle.starts.specs.declared.specifier.Start.{Start}
use Rattle.starts.proofs.Looks.{starts_here}
use Rattle.starts.proofs.Starts.{start_takes, start_keeps, start_spans}
use Rattle.cut.specs.Answer.{FirstIs, Fits, Tells}
use Rattle.cut.specs.BlankLine.{two_newlines}
use Rattle.cut.specs.Blanks.{is_skipped, skip, none, trim}
use Rattle.cut.specs.Field.{Field, field}
use Rattle.cut.specs.Insides.{InsideLeft}
use Rattle.cut.specs.Prefix.{Head, HeadIs, ToldCell, head_by, head_of_cell, starts, prefix_role, finish_prefix, front_cell, next_prefix, prefix_cells}
use Rattle.cut.specs.Raw.{Next, bound, cells_of}
use Rattle.cut.specs.Scanned.{Scanned, head_of, note_at}
use Rattle.cut.specs.Separators.{before, escapes, separator_of, splits, split_at}
use Rattle.cut.specs.declared.machine.Role.{Role}
use Rattle.cut.specs.declared.machine.Role.TheVariants.{EndsLine, Separates, Starts, Splits, Drops, Takes, Notes}
use Rattle.cut.specs.declared.machine.State.{State}
use Rattle.cut.specs.declared.machine.State.TheVariants.{Plain, Escaped}
use Rattle.cut.specs.declared.prefix.Reading.{Reading}
use Rattle.cut.specs.declared.scan.Found.{Found}
use Rattle.cut.specs.declared.types.Cut.{Cut}
use Rattle.cut.specs.declared.types.Note.{Note}
use Rattle.cut.specs.declared.types.Separator.{Separator}
use Rattle.cut.specs.declared.types.Separator.TheVariants.{Kind, Byte}
use Rattle.cut.specs.FieldsLess.{behind_less}
use Rattle.cut.specs.InsidesLemmas.{back_inside, field_all, trim_all, pieces_all, left_all}
use Rattle.cut.specs.PagesLemmas.{cells_none, cells_some, cells_all}
use Rattle.cut.specs.Scans.{by_role}
use Rattle.cut.specs.Skips.{skip_le, skip_all}

-- the code finds a start exactly where there is one
pub start_told : (v : SheetView) (o : Option Start) (t : Option Started) → StartIs v o t → is_some o ≡ is_some t
start_told v None None h = refl
start_told v None (Some t) h = absurd h
start_told v (Some s) None h = absurd h
start_told v (Some s) (Some t) h = refl

-- a start that the code found is the head of its cell
pub head_some : (v : SheetView) (sep first : ℕ) (ts : List Left) (s : Start) → StartIs v (Some s) (start_of sep ts) → HeadIs v (record { specifier = s.specifier; place = s.rest; note = None }) (head_of_cell sep first ts)
head_some v sep first ts s h = go (start_of sep ts) h
  where
    go : (t : Option Started) → StartIs v (Some s) t → HeadIs v (record { specifier = s.specifier; place = s.rest; note = None }) (head_by first ts t)
    go None k = absurd k
    go (Some t) k = record { specifier = k.0; left = k.1; notes = refl }

-- where it found none, nothing is written, and note 1 is made
pub head_none : (v : SheetView) (sep : ℕ) (p : Place) → StartIs v None (start_of sep (left_at v p)) → HeadIs v (record { specifier = nothing_written; place = p; note = Some (note_at 1 p.token) }) (head_of_cell sep p.token (left_at v p))
head_none v sep p h = go (start_of sep (left_at v p)) h
  where
    go : (t : Option Started) → StartIs v None t → HeadIs v (record { specifier = nothing_written; place = p; note = Some (note_at 1 p.token) }) (head_by p.token (left_at v p) t)
    go None k = record { specifier = refl; left = refl; notes = refl }
    go (Some t) k = absurd k

-- a field leaves no more than there was
field_le : (role : State → List Left → Role) (s : State) (ts : List Left) → weight (field role s ts).left ≤ weight ts
field_le role s [] = omega arith
field_le role s (t ∷ ts) = go (λ s'. field_le role s' ts) (role s (t ∷ ts))
  where
    behind : (n : ℕ) → weight (behind_bytes n (t ∷ ts)) ≤ weight (t ∷ ts)
    behind n = pick (nat_lt n (length t.bytes))
      where
        pick : (b : Bool) → weight (cond b (back_of n t ∷ ts) ts) ≤ weight (t ∷ ts)
        pick true = let l = length-drop n t.bytes in omega arith
        pick false = omega arith

    go : ((s' : State) → weight (field role s' ts).left ≤ weight ts) → (r : Role) → weight (by_role role t ts r).left ≤ weight (t ∷ ts)
    go rest EndsLine = omega arith
    go rest Separates = behind 1
    go rest Starts = omega arith
    go rest (Splits n m) = behind m
    go rest (Drops s') = let l = rest s' in omega arith
    go rest (Takes s' line) = let l = rest s' in omega arith
    go rest Notes = let l = rest Plain in omega arith

-- what holds of the tokens of any kind and of the byte itself holds of its separator
by_separator : (sep : ℕ) (P : Separator → Type 0) → ((k : TokenKind) → P (Kind k)) → P (Byte sep) → P (separator_of sep)
by_separator sep P kinds byte =
    cond_both (sep == 58) _ _ P (λ e. kinds _)
    (λ e. cond_both (sep == 59) _ _ P (λ e. kinds _) (λ e. cond_both (sep == 124) _ _ P (λ e. kinds _) (λ e. cond_both (sep == 44) _ _ P (λ e. kinds _) (λ e. byte))))

-- a Word that is split where no cell starts is split behind some byte
split_some : (sep : ℕ) (t : Left) (ts : List Left) → start_of sep (t ∷ ts) ≡ None → splits (separator_of sep) t ≡ true → 0 < split_at (separator_of sep) t
split_some sep t ts no_start = by_separator sep (λ x. splits x t ≡ true → 0 < split_at x t) (λ k e. absurd (false≢true e)) byte
  where
    first : (bs : List ℕ) → bs ≡ t.bytes → t.replaced ≡ false → nat_lt (before sep bs) (length bs) ≡ true → 0 < before sep bs
    first [] q r e = let l = ltb-true (before sep []) (length {A = ℕ} []) e in absurd (omega arith)
    first (b ∷ bs) q r e =
        ⊎_elim
        (λ same.
        let here : slice_index t.bytes 0 ≡ sep = sym (ap (λ (x : List ℕ). slice_index x 0) q) ∙ eqb-true b sep same in
        let some : 0 < length t.bytes = let l = ap length q in omega arith in
        let z : ◌≡◌ {A = ℕ} 0 1 = let s = starts_here sep t ts r some here in cc in
        absurd (omega arith))
        (λ other. let k : before sep (b ∷ bs) ≡ 1 + before sep bs = cond-true (not (b == sep)) _ _ (ap not other) in omega arith)
        (cases_Bool (b == sep))

    byte : splits (Byte sep) t ≡ true → 0 < split_at (Byte sep) t
    byte e =
        let p = and_parts (plain word t) (nat_lt (before sep t.bytes) (length t.bytes)) e in
        first t.bytes refl (not-true t.replaced (and_parts (not t.replaced) (t.kind == word) p.0).0) p.1

-- a token that takes no part in a start is taken, dropped or split, so that less is left
taken_less : (sep : ℕ) (t : Left) (ts : List Left) → start_of sep (t ∷ ts) ≡ None → weight (field (prefix_role sep) Plain (t ∷ ts)).left < weight (t ∷ ts)
unfolding starts
taken_less sep t ts no_start =
    let role = prefix_role sep in
    let P : Role → Type 0 = λ r. weight (by_role (prefix_role sep) t ts r).left < weight (t ∷ ts) in
    let no' : starts sep (t ∷ ts) ≡ false = ap is_some no_start in
    subst P (sym (cond-false (starts sep (t ∷ ts)) _ _ no'))
    (cond_both (escapes t && starts sep ts) _ _ P (λ e. let l = field_le (prefix_role sep) Escaped ts in omega arith)
    (λ e.
    cond_both (splits (separator_of sep) t) _ _ P
    (λ f. let l = behind_less (split_at (separator_of sep) t) t ts (split_some sep t ts no_start f) in omega arith)
    (λ f. let l = field_le (prefix_role sep) Plain ts in omega arith)))

pub front_less : (sep : ℕ) (v : SheetView) (ts : List Left) → none ts ≡ false → weight (front_cell sep v ts).left < weight ts
front_less sep v [] e = absurd (false≢true (sym e))
front_less sep v (t ∷ ts) e = go (start_of sep (t ∷ ts)) refl
  where
    go : (o : Option Started) → start_of sep (t ∷ ts) ≡ o → weight (field (prefix_role sep) Plain (skip true (head_by t.number (t ∷ ts) o).left)).left < weight (t ∷ ts)
    go (Some s) q =
        let a = start_takes sep (t ∷ ts) s q in
        let b = skip_le true s.left in
        let c = field_le (prefix_role sep) Plain (skip true s.left) in
        omega arith
    go None q =
        cond_both (is_skipped true t) _ _ (λ (us : List Left). weight (field (prefix_role sep) Plain us).left < weight (t ∷ ts))
        (λ f. let b = skip_le true ts in let c = field_le (prefix_role sep) Plain (skip true ts) in omega arith)
        (λ f. taken_less sep t ts q)

-- each cell takes something
pub prefix_less : (sep : ℕ) (v : SheetView) (s : Bool) (ts : List Left) (c : Next) → next_prefix sep v s ts ≡ Some c → bound c.separated c.left < bound s ts
prefix_less sep v s ts c h = go (none ts) refl h
  where
    go : (b : Bool) → none ts ≡ b → cond b None (Some (front_cell sep v ts)) ≡ Some c → bound c.separated c.left < bound s ts
    go true e q = let z : ◌≡◌ {A = ℕ} 0 1 = cc in absurd (omega arith)
    go false e q =
        let same : front_cell sep v ts ≡ c = cc in
        let l = front_less sep v ts e in
        subst (λ (x : Next). bound x.separated x.left < bound s ts) same (omega arith)

-- the cell in front fits, and so does what it leaves
prefix_fits : (sep : ℕ) (v : SheetView) (ts : List Left) → AllByRecursion (InsideLeft v) ts → Fits v (front_cell sep v ts).cell × AllByRecursion (InsideLeft v) (front_cell sep v ts).left
prefix_fits sep v ts h = go (start_of sep ts) refl
  where
    first : ℕ
    first = front_number (length v.tokens) ts

    go : (o : Option Started) → start_of sep ts ≡ o
        → Fits v (finish_prefix v (front_number (length v.tokens) ts) (head_by (front_number (length v.tokens) ts) ts o) (field (prefix_role sep) Plain (skip true (head_by (front_number (length v.tokens) ts) ts o).left))).cell
        × AllByRecursion (InsideLeft v) (field (prefix_role sep) Plain (skip true (head_by (front_number (length v.tokens) ts) ts o).left)).left
    go None e =
        let f = field_all v (prefix_role sep) Plain (skip true ts) (skip_all (InsideLeft v) true ts h) in
        (record { inside = pieces_all v _ (trim_all (InsideLeft v) _ f.0); columns = omega arith; rows = omega arith }, f.1)
    go (Some s) e =
        let k = start_keeps (InsideLeft v) (λ t n i l. back_inside v n t i l) sep ts s h e in
        let f = field_all v (prefix_role sep) Plain (skip true s.left) (skip_all (InsideLeft v) true s.left k) in
        let w = start_spans sep ts s e in
        (record { inside = pieces_all v _ (trim_all (InsideLeft v) _ f.0); columns = w.0; rows = w.1 }, f.1)

pub cells_fit : (sep : ℕ) (v : SheetView) (p : Position) → AllByRecursion (Fits v) (prefix_cells sep v p)
cells_fit sep v p = cells_all (next_prefix sep v) (AllByRecursion (InsideLeft v)) (Fits v) step _ false (left v p.token p.offset) (left_all v p.token p.offset)
  where
    step : (s : Bool) (ts : List Left) (c : Next) → next_prefix sep v s ts ≡ Some c → AllByRecursion (InsideLeft v) ts → Fits v c.cell × AllByRecursion (InsideLeft v) c.left
    step s ts c e h = go (none ts) e
      where
        go : (b : Bool) → cond b None (Some (front_cell sep v ts)) ≡ Some c → Fits v c.cell × AllByRecursion (InsideLeft v) c.left
        go true q = let z : ◌≡◌ {A = ℕ} 0 1 = cc in absurd (omega arith)
        go false q = let same : front_cell sep v ts ≡ c = cc in subst (λ (x : Next). Fits v x.cell × AllByRecursion (InsideLeft v) x.left) same (prefix_fits sep v ts h)

-- no token, no cell
pub no_cells : (sep : ℕ) (v : SheetView) (p : Position) → left v p.token p.offset ≡ [] → prefix_cells sep v p ≡ []
no_cells sep v p e = cells_none (next_prefix sep v) false (left v p.token p.offset) (cond-true (none (left v p.token p.offset)) _ _ (ap none e))

-- the cell in front, then those of the position behind it
pub more_cells : (sep : ℕ) (v : SheetView) (p q : Position) → none (left v p.token p.offset) ≡ false → left v q.token q.offset ≡ (front_cell sep v (left v p.token p.offset)).left
    → prefix_cells sep v p ≡ (front_cell sep v (left v p.token p.offset)).cell ∷ prefix_cells sep v q
more_cells sep v p q e l =
    let ts = left v p.token p.offset in
    cells_some (next_prefix sep v) (prefix_less sep v) false (left v p.token p.offset) (front_cell sep v (left v p.token p.offset)) (cond-false (none (left v p.token p.offset)) _ _ e)
    ∙ ap (λ (x : List Left). (front_cell sep v (left v p.token p.offset)).cell ∷ cells_of (next_prefix sep v) false x) (sym l)

pub first_cell : (sep : ℕ) (v : SheetView) (p : Position) → FirstIs v p (prefix_cells sep v p)
first_cell sep v p =
    ⊎_elim
    (λ e. subst (FirstIs v p) (sym (cells_none (next_prefix sep v) false (left v p.token p.offset) (cond-true (none (left v p.token p.offset)) _ _ e))) tt)
    (λ e.
    subst (FirstIs v p)
    (sym (cells_some (next_prefix sep v) (prefix_less sep v) false (left v p.token p.offset) (front_cell sep v (left v p.token p.offset)) (cond-false (none (left v p.token p.offset)) _ _ e)))
    refl)
    (cases_Bool (none (left v p.token p.offset)))

-- what was found of a cell, told, is what the cell in front has
pub cell_tells : (v : SheetView) (i i' : ℕ) (head : Reading) (found : Found) (inside : Bool) (cut : Cut) (h : Head) (f : Field) → i ≡ i' → ToldCell i head found inside cut → HeadIs v head h → Scanned v found f
    → inside ≡ (not found.blank && two_newlines v (map piece_of (trim f.texts))) → Tells cut (finish_prefix v i' h f).cell
cell_tells v i i' head found inside cut h f first t is s e = record {
  first = t.start ∙ first;
  specifier = t.specifier ∙ is.specifier;
  line_end = t.line_end ∙ s.line;
  blank_after = t.blank_after ∙ s.blank;
  blank_inside = t.blank_inside ∙ e ∙ ap (λ (b : Bool). not b && two_newlines v (map piece_of (trim f.texts))) s.blank;
  notes = t.notes ∙ ap length is.notes;
  first_note = t.head_note ∙ head_list head.note ∙ ap head_of is.notes;
}
  where
    head_list : (o : Option Note) → o ≡ head_of (option_to_list o)
    head_list None = refl
    head_list (Some n) = refl
