use Rattle.std.proofs.Common.{ℕ, ◌+◌, ◌<◌, length, sym, refl, ap, ◌∙◌, arith, rules}
use Rattle.std.specs.Option.{option_map}
use Rattle.sheet.specs.View.{view}
use Rattle.starts.specs.Forms.{rows_form}
use Rattle.starts.specs.declared.parts.Span.{Span}
use Rattle.starts.proofs.Spans.{room, row_not, row_large, row_is}
use Rattle.starts.proofs.cursor.Cursor.row_span.Goals as goal

pub returns-in_err-rest-clause-span : goal.returns-in_err-rest-clause-span
returns-in_err-rest-clause-span c =
    let s = c.args.self.sheet.now in
    row_not (view s) s.sound c.args.self.at _ c.tokens.ensures c.in_err-rest.ensures.form ∙ sym (ap (option_map (λ (x : Span × ℕ). x.0)) c.from_residual.ensures)

pub overflow_add-ahead : goal.overflow_add-ahead
overflow_add-ahead c =
    let s = c.args.self.sheet.now in
    let l : c.args.self.at + 2 < length s.tokens.now = room (view s) c.args.self.at 2 _ rows_form c.tokens.ensures c.in_ok-rest.ensures.form refl in
    let few = s.few_tokens in
    let k : c.args.self.at + 2 < 262144 = omega arith in
    search rules

pub returns-in_default : goal.returns-in_default
returns-in_default c =
    let s = c.args.self.sheet.now in
    record { span = row_large (view s) s.sound c.args.self.at c.in_default.ensures; behind = tt }

pub returns : goal.returns
returns c =
    let s = c.args.self.sheet.now in
    let f = c.in_ok-rest.ensures in
    let x =
    row_is (view s) s.sound c.args.self.at _ c.tokens.ensures _ c.number_of.result c.number_of.ensures _ _ f.form f.rest c.in-Some.ensures c.span_of.ensures in
    record { span = x.0; behind = x.1 }
