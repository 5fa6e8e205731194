use Rattle.std.proofs.Common.{◌≡◌, ◌-◌, ◌≤◌}
use Rattle.sheet.specs.Limits.{max_tokens}
use Rattle.cut.specs.Readers.{reach, reading}
use Rattle.cut.specs.Scanned.{Few}
use Rattle.cut.specs.Scans.{Goes}
use Rattle.cut.proofs.reader.Reader.scan.Given as goal

abbrev pub invariant-steps : goal.invariant-steps
invariant-steps g l = record {
  goes : Goes l.finished l.passed l.line l.tail l.notes l.noted (reading g.F.Format.role l.self) (reading g.F.Format.role l.initial.self);
  sheet : l.self.sheet ≡ l.initial.self.sheet;
  passed : l.passed ≤ reach g.F.Format.role l.self;
  noted : l.notes ≤ reach g.F.Format.role l.self;
  many : l.notes ≤ max_tokens;
  few : Few l.noted;
}

abbrev pub decreases-steps : goal.decreases-steps
decreases-steps g l = max_tokens - reach g.F.Format.role l.self
