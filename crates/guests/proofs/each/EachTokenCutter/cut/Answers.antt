use Rattle.std.proofs.lemmas.Bool.{true≢false, false≢true}
use Rattle.std.specs.Result.{is_ok, OnOk, OnErr}
use Rattle.cut.proofs.Refusals.{refused}
use Rattle.std.proofs.Common.{true, false, Ok, Err, Result, ◌≡◌, ◌+◌, [], ◌∷◌, ◌++◌, map, refl, sym, ap, ◌∙◌, arith, rules}
use Rattle.std.specs.Prelude.{◌==◌}
use Rattle.store.specs.Entries.{entries}
use Rattle.sheet.specs.Kinds.{newline, number_of}
use Rattle.sheet.specs.Left.{left, left_at, seen_at}
use Rattle.sheet.specs.View.{view}
use Rattle.sheet.specs.declared.records.Piece.{Piece}
use Rattle.sheet.specs.declared.records.Position.{Position}
use Rattle.cut.proofs.Adds.{added_none, unchanged}
use Rattle.guests.specs.Each.{each_cell, each_cells}
use Rattle.guests.proofs.each.EachTokenCutter.cut.Goals as goal
use Rattle.guests.proofs.each.EachTokenCutter.cut.Goals.{After-push}

-- the token in front is a cell, and those behind it
page : (c : After-push) → each_cells (view c.args.sheet.now) c.args.at ≡ each_cell (seen_at c.in-Some.seen) ∷ map each_cell (left (view c.args.sheet.now) (c.from.result.token + 1) 0)
page c = ap (map each_cell) (ap (left_at (view c.args.sheet.now)) (sym c.from.ensures) ∙ c.in-Some.ensures.seen)

pub returns-in_default : goal.returns-in_default
returns-in_default c = (ap (map each_cell) (ap (left_at (view c.args.sheet.now)) (sym c.from.ensures) ∙ c.in_default.ensures.seen), unchanged _, unchanged _)

-- what holds of an Ok, or of an Err
on_ok : {T E P : Type 0} (r : Result T E) → is_ok r ≡ true → OnOk r P → P
on_ok (Ok x) e h = h
on_ok (Err x) e h = absurd (false≢true e)

on_err : {T E P : Type 0} (r : Result T E) → is_ok r ≡ false → OnErr r P → P
on_err (Ok x) e h = absurd (true≢false e)
on_err (Err x) e h = h

pub returns-in_err-map_err : goal.returns-in_err-map_err
returns-in_err-map_err c =
    let k = (goal.at.returns-in_err-map_err c).After-push in
    let err : is_ok c.push.result ≡ false = sym c.map_err.ensures.variant ∙ ap is_ok c.in_err-map_err.was in
    let full = on_err c.push.result err c.push.ensures.full in
    refused _ _ _ (each_cell (seen_at c.in-Some.seen)) _ _ _ _ _ c.from_residual.ensures.0 (page k) (omega arith) (record { entries = on_err c.push.result err c.push.ensures.unchanged; room = c.push.ensures.room }) (unchanged _)

pub returns : goal.returns
returns c =
    let k = (goal.at.returns c).After-push in
    let v = view c.args.sheet.now in
    let ok : is_ok c.push.result ≡ true = sym c.map_err.ensures.variant ∙ ap is_ok c.in_ok-map_err.was in
    let line : c.eq.result ≡ (number_of c.in-Some.seen.kind == newline) = search rules in
    let cell = each_cell (seen_at c.in-Some.seen) in
    let place : record { token = c.from.result.token + 1; offset = 0; separated = false } ≡ c.position.result = search rules in
    let rest = ap (λ (x : Position). cell ∷ each_cells v x) place in (
      each_cell (seen_at c.in-Some.seen),
      page k ∙ rest,
      record { first = refl; specifier = refl; line_end = line; blank_after = refl; blank_inside = refl; notes = refl; first_note = refl },
      record { entries = on_ok c.push.result ok c.push.ensures.added ∙ ap (λ (x : Piece). entries c.args.pieces.now ++ x ∷ []) c.piece.ensures; room = c.push.ensures.room },
      added_none _ _,
    )
