use Rattle.sheet.specs.View.{view}
use Rattle.starts.proofs.Spans.{column_is}
use Rattle.starts.proofs.cursor.Cursor.column_span.Goals as goal

pub returns : goal.returns
returns c =
    let s = c.args.self.sheet.now in
    let f = c.in_ok-rest.ensures in
    let x =
    column_is (view s) s.sound c.args.self.at _ c.tokens.ensures _ c.number_of.result c.number_of.ensures _ _ f.form f.rest c.in-Some.ensures c.span_of.ensures in
    record { span = x.0; behind = x.1 }
