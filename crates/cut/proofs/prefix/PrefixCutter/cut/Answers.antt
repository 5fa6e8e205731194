use Rattle.std.proofs.Common.{◌≡◌, ℕ, ◌+◌, ◌<◌, true, false, not, ◌&&◌, Bor, List, ◌∷◌, ◌++◌, map, length, take, drop, sym, ap, ◌∙◌, subst}
use Rattle.std.proofs.lemmas.List.{drop_at}
use Rattle.store.specs.Entries.{entries, room}
use Rattle.sheet.specs.Left.{Left, left, left_at, front_number, piece_of, seen_at}
use Rattle.sheet.specs.Places.{position_at}
use Rattle.sheet.specs.View.{view}
use Rattle.sheet.specs.declared.records.Piece.{Piece}
use Rattle.sheet.specs.declared.page.Sheet.{Sheet}
use Rattle.sheet.specs.declared.records.Place.{Place}
use Rattle.sheet.specs.declared.records.Position.{Position}
use Rattle.cut.specs.BlankLine.{two_newlines}
use Rattle.cut.specs.Blanks.{none, skip, trim}
use Rattle.cut.specs.Field.{Field, field}
use Rattle.cut.specs.Fitting.{AddedAsFit}
use Rattle.cut.specs.Prefix.{Head, HeadIs, head_of_cell, prefix_role, front_cell, prefix_cells}
use Rattle.cut.specs.Raw.{RawCell}
use Rattle.cut.specs.Readers.{reading}
use Rattle.cut.specs.Scanned.{Scanned}
use Rattle.cut.specs.declared.machine.Role.{Role}
use Rattle.cut.specs.declared.machine.State.{State}
use Rattle.cut.specs.declared.machine.State.TheVariants.{Plain}
use Rattle.cut.specs.declared.prefix.Prefix.{Prefix}
use Rattle.cut.specs.declared.types.Note.{Note}
use Rattle.cut.proofs.Adds.{unchanged}
use Rattle.cut.proofs.Refusals.{refused}
use Rattle.cut.specs.Cuts.{pieces_are, pieces_many}
use Rattle.cut.specs.Prefixes.{more_cells, cell_tells}
use Rattle.cut.proofs.prefix.PrefixCutter.cut.Goals as goal
use Rattle.cut.proofs.prefix.PrefixCutter.cut.Goals.{After-scan-found}

-- what is left at the position, the head of the cell there, the field behind it, and the cell
abbrev at_start : (c : After-scan-found) → List Left
at_start c = left (view c.args.sheet.now) c.args.at.token c.args.at.offset

abbrev head : (c : After-scan-found) → Head
head c = head_of_cell c.args.self.now.byte (front_number (length (view c.args.sheet.now).tokens) (at_start c)) (at_start c)

abbrev body : (c : After-scan-found) → Field
body c = field (prefix_role c.args.self.now.byte) Plain (skip true (head c).left)

abbrev cell : (c : After-scan-found) → RawCell
cell c = (front_cell c.args.self.now.byte (view c.args.sheet.now) (at_start c)).cell

-- the role of a cutter's tokens
abbrev prefix_of : Prefix → State → List Left → Role
prefix_of k = prefix_role k.byte

-- what is seen is in front of what is left at the position
front : (c : After-scan-found) → at_start c ≡ seen_at c.in-Some.seen ∷ left (view c.args.sheet.now) (c.from.result.token + 1) 0
front c = ap (left_at (view c.args.sheet.now)) (sym c.from.ensures) ∙ c.in-Some.ensures.seen

first : (c : After-scan-found) → c.in-Some.seen.place.token ≡ front_number (length (view c.args.sheet.now).tokens) (at_start c)
first c = sym (ap (front_number (length (view c.args.sheet.now).tokens)) (front c))

head_is : (c : After-scan-found) → HeadIs (view c.args.sheet.now) c.read_head-head.result (head c)
head_is c =
    let sep = c.args.self.now.byte in
    let v = view c.args.sheet.now in
    subst (HeadIs v c.read_head-head.result)
    (ap (λ (i : ℕ). head_of_cell sep i (left_at v c.in-Some.seen.place)) (first c) ∙ ap (λ (p : Place). head_of_cell sep (front_number (length v.tokens) (at_start c)) (left_at v p)) (c.in-Some.ensures.here ∙ c.from.ensures))
    c.read_head-head.ensures

body_is : (c : After-scan-found) → reading prefix_of c.new-reader.result ≡ body c
body_is c = c.new-reader.ensures.reading ∙ ap (field (prefix_role c.args.self.now.byte) Plain) (c.skip_blanks-skipped.ensures.left ∙ ap (skip true) (head_is c).left)

found_is : (c : After-scan-found) → Scanned (view c.args.sheet.now) c.scan-found.result (body c)
found_is c =
    subst (Scanned (view c.args.sheet.now) c.scan-found.result) (body_is c)
    (subst (λ (x : Bor Sheet). Scanned (view x.now) c.scan-found.result (reading prefix_of c.new-reader.result)) c.new-reader.ensures.sheet c.scan-found.ensures)

page : (c : After-scan-found) → prefix_cells c.args.self.now.byte (view c.args.sheet.now) c.args.at ≡ cell c ∷ prefix_cells c.args.self.now.byte (view c.args.sheet.now) (position_at c.scan-found.result.rest false)
page c =
    let v = view c.args.sheet.now in
    more_cells c.args.self.now.byte v c.args.at (position_at c.scan-found.result.rest false)
    (ap none (front c)) (found_is c).rest

pub returns-in_err-fill : goal.returns-in_err-fill
returns-in_err-fill c =
    let k = (goal.at.returns-in_err-fill c).After-scan-found in
    let f = c.in_err-fill.ensures in
    let many = pieces_many _ (body k).texts (found_is k).finished in
    refused _ _ _ (cell k) _ _ _ _ _ c.from_residual.ensures.0 (page k) (subst (λ (n : ℕ). room c.args.pieces.now < length (entries c.args.pieces.now) + n) many f.full) f.stays (unchanged _)

pub returns : goal.returns
returns c =
    let k = (goal.at.returns c).After-scan-found in
    let v = view c.args.sheet.now in
    let d = c.told_cell.ensures in
    let f = c.in_ok-fill.ensures.written in
    let written = ap (λ (x : Field). map piece_of (take c.scan-found.result.finished x.texts)) (body_is k) ∙ pieces_are _ (body k).texts (found_is k).finished in
    let all = f.entries ∙ ap (λ (x : List Piece). entries c.args.pieces.now ++ x) written in
    let new = ap (drop c.len-used.result) all ∙ drop_at (entries c.args.pieces.now) (map piece_of (trim (body k).texts)) c.len-used.result (sym c.len-used.ensures) in
    let inside = c.is_blank_inside-inside.ensures ∙ ap (λ (ps : List Piece). not c.scan-found.result.blank && two_newlines v ps) new in (
      cell k,
      page k ∙ ap (λ (p : Position). cell k ∷ prefix_cells c.args.self.now.byte v p) (sym d.rest),
      cell_tells v _ _ c.read_head-head.result c.scan-found.result _ _ (head k) (body k) (first k) d (head_is k) (found_is k) inside,
      record { entries = all; room = f.room },
      subst (λ (ns : List Note). AddedAsFit c.args.notes.now c.add_note.new.notes ns) (head_is k).notes c.add_note.ensures,
    )
