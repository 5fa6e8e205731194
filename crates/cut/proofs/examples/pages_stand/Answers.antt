use Rattle.std.proofs.Common.{refl}
use Rattle.cut.specs.Prefix.{starts}
use Rattle.cut.proofs.examples.pages_stand.Goals as goal

pub returns-clause-stand : goal.returns-clause-stand
unfolding starts
returns-clause-stand c = record { copied = refl; spanned = refl; wide = refl; alone = refl; both = refl; large = refl; owed = refl; lines = refl; quoted = refl }
