use Rattle.sheet.specs.View.{view}
use Rattle.starts.proofs.Spans.{factor_is}
use Rattle.starts.proofs.cursor.Cursor.factor.Goals as goal

pub returns : goal.returns
returns c =
    let s = c.args.self.sheet.now in
    let f = c.in-Some.ensures in
    factor_is (view s) s.sound c.args.self.at _ c.tokens.ensures _ c.number_of.result c.number_of.ensures _ f.form f.rest c.in-Some-digits.ensures
