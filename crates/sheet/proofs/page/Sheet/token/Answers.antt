use Rattle.std.proofs.Common.{◌≡◌, ◌+◌, length, true, refl}
use Rattle.std.proofs.lemmas.Option.{slice_get_read}
use Rattle.sheet.specs.Sound.{sound_token}
use Rattle.sheet.proofs.Lefts.{within_text}
use Rattle.sheet.proofs.Tokens.{sound_at, token_has_byte, ends_inside, kind_within}
use Rattle.sheet.proofs.page.Sheet.token.Goals as goal
use Rattle.sheet.proofs.page.Sheet.token.Goals.{In_ok-token}

-- the token that the look-up gave is sound
sound : (c : In_ok-token) → sound_token c.args.self.now.page.now c.args.self.now.replacement.now c.in_ok-token.token.now ≡ true
sound c =
    let h = c.in_ok-token.ensures.lookup in
    let s = c.args.self.now in
    sound_at s.page.now s.replacement.now s.tokens.now c.args.number c.in_ok-token.token.now s.sound
    (slice_get_read s.tokens.now (length s.tokens.now) c.args.number c.in_ok-token.token.now refl h.3.0 h.1)

pub returns-clause-kind : goal.returns-clause-kind
returns-clause-kind c =
    let s = c.args.self.now in
    kind_within s.page.now s.replacement.now c.in_ok-token.token.now (sound (goal.at.returns-clause-kind c).In_ok-token)

pub returns-clause-some : goal.returns-clause-some
returns-clause-some c =
    let s = c.args.self.now in
    token_has_byte s.page.now s.replacement.now c.in_ok-token.token.now (sound (goal.at.returns-clause-some c).In_ok-token)

pub returns-clause-within : goal.returns-clause-within
returns-clause-within c =
    let s = c.args.self.now in
    ends_inside s.page.now s.replacement.now c.in_ok-token.token.now (sound (goal.at.returns-clause-within c).In_ok-token)

pub returns-clause-short : goal.returns-clause-short
returns-clause-short c =
    let s = c.args.self.now in
    let t = c.in_ok-token.token.now in
    let ends = ends_inside s.page.now s.replacement.now t (sound (goal.at.returns-clause-short c).In_ok-token) in
    within_text s.page.now s.replacement.now t.replaced (t.start + t.length) s.short_page s.short_replacement ends
