use Rattle.std.proofs.Common.{◌≡◌, ℕ, ◌+◌, ◌-◌, length, drop, ap, ◌∙◌, subst, arith}
use Rattle.std.proofs.lemmas.List.{take_all, length-drop}
use Rattle.document.specs.Bytes.{before}
use Rattle.document.specs.Lines.{size_at, next_at}
use Rattle.document.specs.Blocks.{Stands}
use Rattle.document.proofs.Feeds.{stands_next}
use Rattle.document.proofs.Walks.{stands_at}
use Rattle.document.proofs.lines.LinesIterator.next.Goals as goal

pub invariant_of-self : goal.invariant_of-self
invariant_of-self c =
    let s = c.args.self.now in
    let size : c.find-size.result ≡ size_at s.text.now s.at =
    c.find-size.ensures.value
    ∙ ap (before 10) (take_all (length s.text.now - s.at) (drop s.at s.text.now) (simp length-drop (omega arith))) in
    let next : next_at s.text.now s.at ≡ s.at + c.min.result = omega (arith, size) in
    let st = subst (λ (n : ℕ). Stands s.text.now n (s.before + 1)) next (stands_next s.text.now s.at (omega arith) s.before (stands_at s)) in
    record { within = st.within; few = omega (arith, st.few); begins = st.begins; counted = λ inside. omega (arith, st.counted inside) }
