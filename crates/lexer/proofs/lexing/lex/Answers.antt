use Rattle.std.proofs.Common.{sym, subst, refl}
use Rattle.lexer.specs.Lexed.{Lexed}
use Rattle.lexer.proofs.Cuts.{lexed_from_steps}
use Rattle.lexer.proofs.lexing.lex.Goals as goal

pub returns-clause-lexed : goal.returns-clause-lexed
returns-clause-lexed c =
    let ran = c.in_ok-collect.ensures.ran in
    subst (Lexed c.args.text.now) (sym ran.2.0) (lexed_from_steps ran.0 _ refl ran.1)
