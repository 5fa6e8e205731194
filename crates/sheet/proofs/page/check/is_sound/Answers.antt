use Rattle.std.proofs.Common.{◌≡◌, ℕ, ◌+◌, ◌-◌, List, length, take, drop, sym, ap, ◌∙◌, arith}
use Rattle.sheet.specs.Kinds.{number_of}
use Rattle.sheet.specs.Sound.{is_kind, bytes_fit, flag_fits}
use Rattle.sheet.proofs.Tokens.{sound_by_bytes}
use Rattle.sheet.proofs.page.check.is_sound.Goals as goal

pub returns : goal.returns
returns c =
    let t = c.args.token in
    let text = c.text_of-text.ensures in
    let long = ap length text in
    let size : t.start + t.length - t.start ≡ t.length = omega arith in
    let kind : number_of c.in-Ok.kind ≡ t.kind = c.in-Ok.ensures in
    c.bytes_fit.ensures
    ∙ ap (λ (k : ℕ). bytes_fit k (take (t.start + t.length - t.start) (drop t.start c.text_of-text.result.now))) kind
    ∙ ap (λ (n : ℕ). bytes_fit t.kind (take n (drop t.start c.text_of-text.result.now))) size
    ∙ ap (λ (x : List ℕ). bytes_fit t.kind (take t.length (drop t.start x))) text
    ∙ sound_by_bytes c.args.page.now c.args.replacement.now t
    (sym (ap is_kind kind) ∙ sym c.if-not-is_kind.ensures) (omega arith) (omega arith)
    (sym (ap (λ (k : ℕ). flag_fits k t.replaced) kind) ∙ sym c.if-not-flag_fits.ensures)
