use Rattle.std.proofs.Common.{◌≡◌, ℕ, ◌+◌, ◌<◌, not, ◌&&◌, Bor, List, ◌∷◌, ◌++◌, map, length, take, Option, sym, ap, ◌∙◌, subst}
use Rattle.store.specs.Entries.{entries, room}
use Rattle.sheet.specs.Left.{Left, left, left_at, piece_of}
use Rattle.sheet.specs.Places.{position_at}
use Rattle.sheet.specs.View.{view}
use Rattle.sheet.specs.declared.records.Piece.{Piece}
use Rattle.sheet.specs.declared.page.Sheet.{Sheet}
use Rattle.sheet.specs.declared.records.Position.{Position}
use Rattle.cut.specs.Blanks.{none, skip, skips_newline}
use Rattle.cut.specs.Field.{Field, field}
use Rattle.cut.specs.Fields.{Begin, fields, front_field, notes_of, at_mark}
use Rattle.cut.specs.Fitting.{AddedAsFit}
use Rattle.cut.specs.Raw.{RawCell}
use Rattle.cut.specs.Readers.{reading}
use Rattle.cut.specs.Scanned.{Scanned}
use Rattle.cut.specs.declared.machine.State.{State}
use Rattle.cut.specs.declared.types.Note.{Note}
use Rattle.cut.proofs.Adds.{unchanged}
use Rattle.cut.proofs.Refusals.{refused}
use Rattle.cut.specs.Cuts.{no_fields, more_fields, field_tells, tells_at, pieces_are, pieces_many}
use Rattle.cut.proofs.fields.AnyCutter.cut.Given as given
use Rattle.cut.proofs.fields.AnyCutter.cut.Goals as goal
use Rattle.cut.proofs.fields.AnyCutter.cut.Goals.{After-scan-found}

-- what is left behind the skipped blanks
skipped : (g : given.Over) (c : After-scan-found g) → left_at (view c.args.sheet.now) c.skip_blanks-skipped.result.place ≡ skip c.args.at.separated (left (view c.args.sheet.now) c.args.at.token c.args.at.offset)
skipped g c = c.skip_blanks-skipped.ensures.left ∙ ap (skip c.args.at.separated) c.place_of-start.ensures.same

-- how the field in front begins, the field, and its cell
abbrev begun : (g : given.Over) (c : After-scan-found g) → Begin
begun g c = g.F.Opens.begin c.args.self.now (skip c.args.at.separated (left (view c.args.sheet.now) c.args.at.token c.args.at.offset))

abbrev fronted : (g : given.Over) (c : After-scan-found g) → Field
fronted g c = field (g.F.Format.role c.args.self.now) (begun g c).state (begun g c).left

abbrev cell : (g : given.Over) (c : After-scan-found g) → RawCell
cell g c = (front_field (g.F.Format.role c.args.self.now) (g.F.Opens.begin c.args.self.now) (length (view c.args.sheet.now).tokens) c.args.at.separated (left (view c.args.sheet.now) c.args.at.token c.args.at.offset)).cell

pub returns-then-no_field : goal.returns-then-no_field
returns-then-no_field g c =
    (no_fields (g.F.Format.role c.args.self.now) (g.met.F.Opens.moves c.args.self.now) (g.F.Opens.begin c.args.self.now) (g.met.F.Opens.less c.args.self.now) (view c.args.sheet.now) c.args.at (sym (c.no_field.ensures ∙ ap (λ (x : List Left). none x && not c.args.at.separated) (c.skip_blanks-skipped.ensures.left ∙ ap (skip c.args.at.separated) c.place_of-start.ensures.same)) ∙ c.if-no_field.true), unchanged _, unchanged _)

-- how the field begins, as the definition says it
begins : (g : given.Over) (c : After-scan-found g) → g.F.Opens.begin c.args.self.now (left_at (view c.args.sheet.now) c.skip_blanks-skipped.result.place) ≡ begun g c
begins g c = ap (g.F.Opens.begin c.args.self.now) (skipped g c)

-- the field that is read is the one in front
field_is : (g : given.Over) (c : After-scan-found g) → reading g.F.Format.role c.new-reader.result ≡ fronted g c
field_is g c =
    let role = g.F.Format.role c.args.self.now in
    let o = c.open_field-opening.ensures in
    c.new-reader.ensures.reading
    ∙ ap (λ (s : State). field role s (left_at (view c.args.sheet.now) c.open_field-opening.result.place)) o.state
    ∙ ap (field role _) o.left
    ∙ ap (λ (b : Begin). field role b.state b.left) (begins g c)

found_is : (g : given.Over) (c : After-scan-found g) → Scanned (view c.args.sheet.now) c.scan-found.result (fronted g c)
found_is g c =
    subst (Scanned (view c.args.sheet.now) c.scan-found.result) (field_is g c)
    (subst (λ (x : Bor Sheet). Scanned (view x.now) c.scan-found.result (reading g.F.Format.role c.new-reader.result)) c.new-reader.ensures.sheet c.scan-found.ensures)

-- the page's fields: the one in front, then those behind it
page : (g : given.Over) (c : After-scan-found g) → fields (g.F.Format.role c.args.self.now) (g.F.Opens.begin c.args.self.now) (view c.args.sheet.now) c.args.at
    ≡ cell g c ∷ fields (g.F.Format.role c.args.self.now) (g.F.Opens.begin c.args.self.now) (view c.args.sheet.now) (position_at c.scan-found.result.rest (at_mark c.scan-found.result.close))
page g c =
    let s = found_is g c in
    more_fields (g.F.Format.role c.args.self.now) (g.met.F.Opens.moves c.args.self.now) (g.F.Opens.begin c.args.self.now) (g.met.F.Opens.less c.args.self.now) (view c.args.sheet.now) c.args.at
    (sym (c.no_field.ensures ∙ ap (λ (x : List Left). none x && not c.args.at.separated) (skipped g c)) ∙ c.if-no_field.false)
    (position_at c.scan-found.result.rest (at_mark c.scan-found.result.close)) (ap at_mark s.close) s.rest

pub returns-in_err-fill : goal.returns-in_err-fill
returns-in_err-fill g c =
    let k = (goal.at.returns-in_err-fill g c).After-scan-found in
    let f = c.in_err-fill.ensures in
    let many = pieces_many _ (fronted g k).texts (found_is g k).finished in
    refused _ _ _ (cell g k) _ _ _ _ _ c.from_residual.ensures.0 (page g k) (subst (λ (n : ℕ). room c.args.pieces.now < length (entries c.args.pieces.now) + n) many f.full) f.stays (unchanged _)

pub returns : goal.returns
returns g c =
    let k = (goal.at.returns g c).After-scan-found in
    let v = view c.args.sheet.now in
    let d = c.told_field.ensures in
    let f = c.in_ok-fill.ensures.written in
    let written = ap (λ (x : Field). map piece_of (take c.scan-found.result.finished x.texts)) (field_is g k) ∙ pieces_are _ (fronted g k).texts (found_is g k).finished in
    let q = c.open_field-opening.ensures.quote ∙ ap (λ (b : Begin). b.quote) (begins g k) in (
      cell g k,
      page g k ∙ ap (λ (p : Position). cell g k ∷ fields (g.F.Format.role c.args.self.now) (g.F.Opens.begin c.args.self.now) v p) (sym d.rest),
      tells_at _ (fronted g k) _ _ _ _ _ _ c.place_of-start.ensures.first (c.skip_blanks-skipped.ensures.line ∙ ap (skips_newline c.args.at.separated) c.place_of-start.ensures.same) q
          (field_tells v _ _ _ c.scan-found.result _ (fronted g k) d (found_is g k)),
      record { entries = f.entries ∙ ap (λ (x : List Piece). entries c.args.pieces.now ++ x) written; room = f.room },
      subst (λ (ns : List Note). AddedAsFit c.args.notes.now c.write_notes.new.notes ns)
          (ap (λ (x : Field). notes_of c.open_field-opening.result.quote x) (field_is g k) ∙ ap (λ (x : Option ℕ). notes_of x (fronted g k)) q) c.write_notes.ensures,
    )
