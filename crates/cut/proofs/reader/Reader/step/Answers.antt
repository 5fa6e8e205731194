use Rattle.std.proofs.Common.{◌≡◌, ℕ, ◌+◌, ◌<◌, ◌≤◌, false, List, ◌∷◌, length, is_some, Some, None, Option, rules, sym, refl, ap, ◌∙◌, subst, arith}
use Rattle.std.proofs.lemmas.Bool.{false≢true}
use Rattle.std.proofs.lemmas.List.{length-take-le}
use Rattle.sheet.specs.Left.{Left, left, left_at, seen_at, behind_bytes, piece_of}
use Rattle.sheet.specs.Limits.{max_tokens}
use Rattle.sheet.specs.View.{view}
use Rattle.sheet.specs.declared.records.Piece.{Piece}
use Rattle.sheet.specs.declared.records.Place.{Place}
use Rattle.cut.specs.Field.{closed, field, front_of, more, noted}
use Rattle.cut.specs.Readers.{StepIs, read_on, reach_of, reading}
use Rattle.cut.specs.Scans.{by_role, field_at}
use Rattle.cut.specs.declared.machine.Close.{Close}
use Rattle.cut.specs.declared.machine.Close.TheVariants.{Mark}
use Rattle.cut.specs.declared.machine.Role.{Role}
use Rattle.cut.specs.declared.machine.Role.TheVariants.{Splits, Takes, Notes}
use Rattle.cut.specs.declared.machine.State.{State}
use Rattle.cut.specs.declared.machine.State.TheVariants.{Plain}
use Rattle.cut.proofs.reader.Reader.step.Given as given
use Rattle.cut.proofs.reader.Reader.step.Goals as goal
use Rattle.cut.proofs.reader.Reader.step.Goals.{After-role}

-- a cell that nothing has closed is read on
open_on : (role : State → List Left → Role) (o : Option Close) (s : State) (ts : List Left) → is_some o ≡ false → read_on role o s ts ≡ field role s ts
open_on role None s ts e = refl
open_on role (Some how) s ts e = absurd (false≢true (sym e))

open_reach : (o : Option Close) (i j : ℕ) → is_some o ≡ false → i < max_tokens → j ≡ i + 1 → (reach_of o i + 1 ≤ reach_of o j) × (reach_of o j ≤ max_tokens)
open_reach None i j e l q = (omega arith, omega arith)
open_reach (Some how) i j e l q = absurd (false≢true (sym e))

shut_reach : (o : Option Close) (i : ℕ) → is_some o ≡ false → i < max_tokens → (reach_of o i + 1 ≤ max_tokens) × (max_tokens ≤ max_tokens)
shut_reach None i e l = (omega arith, omega arith)
shut_reach (Some how) i e l = absurd (false≢true (sym e))

module _ (g : given.Over) (c : After-role g) where
  -- what is seen is in front of what is left
  front : left_at (view c.args.self.sheet.now) c.args.self.place ≡ seen_at c.in-Some.seen ∷ left (view c.args.self.sheet.now) (c.in-Some.seen.place.token + 1) 0
  front = c.in-Some.ensures.seen ∙ ap (λ (p : Place). seen_at c.in-Some.seen ∷ left (view c.args.self.sheet.now) (p.token + 1) 0) (sym c.in-Some.ensures.here)

  still : is_some c.args.self.closed ≡ false
  still = sym c.is_some.ensures ∙ c.if-is_some.false

  -- what is read, by the role of the token in front
  by_front : (r : Role) → r ≡ g.F.Format.role c.args.self.format.now c.args.self.state (left_at (view c.args.self.sheet.now) c.in-Some.seen.place)
      → reading g.F.Format.role c.args.self ≡ by_role (g.F.Format.role c.args.self.format.now) (seen_at c.in-Some.seen) (left (view c.args.self.sheet.now) (c.in-Some.seen.place.token + 1) 0) r
  by_front r e =
      let role = g.F.Format.role c.args.self.format.now in
      let v = view c.args.self.sheet.now in
      let s = c.args.self.state in
      open_on role c.args.self.closed s (left_at v c.args.self.place) still
      ∙ field_at role s (left_at v c.args.self.place) _ _ r front (e ∙ ap (λ (p : Place). role s (left_at v p)) c.in-Some.ensures.here)

  -- what is still read behind it
  behind_it : (s : State) (p : Place) → p ≡ record { token = c.in-Some.seen.place.token + 1; offset = 0 }
      → field (g.F.Format.role c.args.self.format.now) s (left (view c.args.self.sheet.now) (c.in-Some.seen.place.token + 1) 0)
      ≡ read_on (g.F.Format.role c.args.self.format.now) c.args.self.closed s (left_at (view c.args.self.sheet.now) p)
  behind_it s p e =
      let role = g.F.Format.role c.args.self.format.now in
      let v = view c.args.self.sheet.now in
      ap (λ (q : Place). field role s (left_at v q)) (sym e) ∙ sym (open_on role c.args.self.closed s (left_at v p) still)

  few_here : c.args.self.place.token < max_tokens
  few_here = subst (λ (p : Place). p.token < max_tokens) c.in-Some.ensures.here c.in-Some.seen.few

  on_it : (p : Place) → p ≡ record { token = c.in-Some.seen.place.token + 1; offset = 0 }
      → (reach_of c.args.self.closed c.args.self.place.token + 1 ≤ reach_of c.args.self.closed p.token) × (reach_of c.args.self.closed p.token ≤ max_tokens)
  on_it p e =
      open_reach c.args.self.closed c.args.self.place.token p.token still few_here (ap (λ (q : Place). q.token) e ∙ ap (λ (q : Place). q.token + 1) c.in-Some.ensures.here)

-- the first n bytes of a token, as a piece
front_piece : (n : ℕ) (t : Left) (p : Piece) → n ≤ length t.bytes → p ≡ piece_of t → ◌≡◌ {A = Piece} (record { token = p.token; offset = p.offset; length = n }) (piece_of (front_of n t))
front_piece n t p l e =
    ap {B = Piece} (λ (q : Piece). record { token = q.token; offset = q.offset; length = n }) e
    ∙ ap {B = Piece} (λ (k : ℕ). record { token = t.number; offset = t.offset; length = k }) (sym (length-take-le n t.bytes l))

pub returns-in-Splits : goal.returns-in-Splits
returns-in-Splits g c =
    let k = (goal.at.returns-in-Splits g c).After-role in
    let t = seen_at c.in-Some.seen in
    let n = c.in-Splits.size in
    let rest = c.behind_bytes-in-Splits.ensures ∙ ap (λ (p : Place). behind_bytes c.in-Splits.past (left_at (view c.args.self.sheet.now) p)) c.in-Some.ensures.here ∙ ap (behind_bytes c.in-Splits.past) (front g k) in
    subst (StepIs g.F.Format.role c.args.self _) (sym c.shut-in-Splits.ensures)
    (record {
      sheet = refl;
      gives = (
        front_of n t,
        by_front g k (Splits n c.in-Splits.past) c.in-Splits.ensures.value ∙ ap (λ (ts : List Left). more false (front_of n t) (closed Mark ts)) (sym rest),
        front_piece n t c.piece.result c.in-Splits.ensures.within.0 c.piece.ensures,
        refl,
      );
      closed = search rules;
      further = shut_reach c.args.self.closed c.args.self.place.token (still g k) (few_here g k);
    })

pub returns-in-Takes : goal.returns-in-Takes
returns-in-Takes g c =
    let k = (goal.at.returns-in-Takes g c).After-role in
    let t = seen_at c.in-Some.seen in
    subst (StepIs g.F.Format.role c.args.self _) (sym c.further-in-Takes.ensures)
    (record {
      sheet = refl;
      gives = (t, by_front g k (Takes c.in-Takes.state c.in-Takes.line) c.in-Takes.ensures.value ∙ ap (more c.in-Takes.line t) (behind_it g k c.in-Takes.state c.behind-in-Takes.result c.behind-in-Takes.ensures), c.piece-in-Takes.ensures, refl);
      closed = search rules;
      further = on_it g k c.behind-in-Takes.result c.behind-in-Takes.ensures;
    })

pub returns-in-Notes : goal.returns-in-Notes
returns-in-Notes g c =
    let k = (goal.at.returns-in-Notes g c).After-role in
    let t = seen_at c.in-Some.seen in
    subst (StepIs g.F.Format.role c.args.self _) (sym c.further-in-Notes.ensures)
    (record {
      sheet = refl;
      gives = (t, by_front g k Notes c.in-Notes.ensures.value ∙ ap (noted t) (behind_it g k Plain c.behind-in-Notes.result c.behind-in-Notes.ensures), omega arith, omega (arith, c.in-Some.seen.few));
      closed = search rules;
      further = on_it g k c.behind-in-Notes.result c.behind-in-Notes.ensures;
    })
