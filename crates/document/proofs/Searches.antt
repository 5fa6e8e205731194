-- What the search for tables keeps from one line to the next.
-- Assumes nothing.
use Rattle.std.proofs.Common.{◌≡◌, ℕ, ◌<◌, Option, Some, None, List, [], ◌∷◌, ◌++◌, length, get_or, inl, inr, sym, refl, ap, ◌∙◌, subst}
use Rattle.std.specs.List.{AllByRecursion}
use Rattle.std.proofs.ByRecursion.{All-push}
use Rattle.document.specs.Lines.{line_at, next_at}
use Rattle.document.specs.Marks.{kind_of}
use Rattle.document.specs.Attributes.{said, nothing, with_line}
use Rattle.document.specs.Blocks.{Stands, Onward, FoundAt, Reached, Framed, Missing, Closes, on, mark_of, table_of}
use Rattle.document.specs.Walks.{at_line, at_lines, closing_at, Reads, Finds, FindsLine}
use Rattle.document.specs.declared.attributes.Attributes as attributes
use Rattle.document.specs.declared.lines.Line.{Line}
use Rattle.document.specs.declared.lines.Lines.{Lines}
use Rattle.document.specs.declared.marks.LineKind.{LineKind}
use Rattle.document.specs.declared.marks.LineKind.TheVariants.{Table, Verbatim, Attributes, Aside, Text}
use Rattle.document.specs.declared.table.Table as table
use Rattle.document.proofs.Frames.{framed, begun_at, found_at}
use Rattle.document.proofs.Walks.{stands_at}

-- in front of the lines that are left, with the attributes in force and the tables found by then
pub record Searched (text : List ℕ) (s : Lines) (a : attributes.Attributes) (ts : List table.Table) : Type 0 where
  pub same : s.text.now ≡ text
  pub reached : Reached text (at_lines s a) ts
  pub framed : AllByRecursion (Framed text) ts

pub searched_front : (text : List ℕ) (s : Lines) (a : attributes.Attributes) (ts : List table.Table) → s.text.now ≡ text → s.at ≡ 0 → s.before ≡ 0
    → said a ≡ nothing → ts ≡ [] → Searched text s a ts
searched_front text s a ts e at before clear none =
    record {
      same = e;
      reached = begun_at text (at_lines s a) ts none at before clear;
      framed = subst (λ (l : List table.Table). AllByRecursion (Framed text) l) (sym none) tt;
    }

-- a fact of a block that a line opens, at what the text has there
at_text : (P : List ℕ → List ℕ → ℕ → ℕ → Type 0) (t t' o o' : List ℕ) (f f' b b' : ℕ) → t ≡ t' → o ≡ o' → f ≡ f' → b ≡ b' → P t o f b → P t' o' f' b'
at_text P t t' o o' f f' b b' e g h i p =
    subst (λ (n : ℕ). P t' o' f' n) i (subst (λ (n : ℕ). P t' o' n b) h (subst (λ (l : List ℕ). P t' l f b) g (subst (λ (l : List ℕ). P l o f b) e p)))

-- a line's mark, as it is read
mark_at : (xs : List ℕ) → get_or xs 0 0 ≡ mark_of xs
mark_at [] = refl
mark_at (x ∷ xs) = refl

module _ (text : List ℕ) (s : Lines) (l : Line) (t : Lines) (a : attributes.Attributes) (ts : List table.Table) (w : Searched text s a ts) (h : Reads s l t) where
  inside : s.at < length text
  inside = subst (λ (xs : List ℕ). s.at < length xs) w.same h.inside

  bytes : l.bytes.now ≡ line_at text s.at
  bytes = h.bytes ∙ ap (λ (xs : List ℕ). line_at xs s.at) w.same

  next : l.next ≡ next_at text s.at
  next = h.next ∙ ap (λ (xs : List ℕ). next_at xs s.at) w.same

  at : t.at ≡ next_at text s.at
  at = h.at ∙ ap (λ (xs : List ℕ). next_at xs s.at) w.same

  stands : Stands text s.at s.before
  stands = subst (λ (xs : List ℕ). Stands xs s.at s.before) w.same (stands_at s)

  -- below a line that opens no table
  onward : (u : Lines) (b : attributes.Attributes) (k : LineKind) → u.text.now ≡ text → k ≡ kind_of l.bytes.now
      → Onward text (at_lines s a) (at_lines u b) k → Searched text u b ts
  onward u b k same e o =
      record {
        same = same;
        reached = on w.reached inside (subst (λ (k : LineKind). Onward text (at_lines s a) (at_lines u b) k) (e ∙ ap kind_of bytes) o);
        framed = w.framed;
      }

  pub searched_attributes : (b : attributes.Attributes) → Attributes ≡ kind_of l.bytes.now → said b ≡ with_line (said a) l.bytes.now → Searched text t b ts
  searched_attributes b e f = onward t b Attributes (h.text ∙ w.same) e ((at, h.behind), f ∙ ap (with_line (said a)) bytes)

  pub searched_aside : Aside ≡ kind_of l.bytes.now → Searched text t a ts
  searched_aside e = onward t a Aside (h.text ∙ w.same) e ((at, h.behind), refl)

  pub searched_text : (b : attributes.Attributes) → Text ≡ kind_of l.bytes.now → said b ≡ nothing → Searched text t b ts
  searched_text b e f = onward t b Text (h.text ∙ w.same) e ((at, h.behind), f)

  -- behind a verbatim block
  pub searched_verbatim : (r : Option Line) (u : Lines) (b : attributes.Attributes) → Verbatim ≡ kind_of l.bytes.now → Finds t l.bytes.now r u
      → said b ≡ nothing → Searched text u b ts
  searched_verbatim None u b e f clear =
      onward u b Verbatim (f.text ∙ h.text ∙ w.same) e
      (inr (
        at_text (λ xs o from _. Missing xs o from (length xs)) _ _ _ _ _ _ 0 0 (h.text ∙ w.same) bytes at refl f.missing,
        f.at ∙ ap length (h.text ∙ w.same),
        clear,
      ))
  searched_verbatim (Some c) u b e f clear =
      onward u b Verbatim (f.text ∙ h.text ∙ w.same) e
      (inl (
        closing_at c,
        at_text (λ xs o from low. Closes xs o from low (closing_at c)) _ _ _ _ _ _ _ _ (h.text ∙ w.same) bytes at h.behind f.closes,
        record { at = f.at ∙ ap (λ (xs : List ℕ). next_at xs c.start) (h.text ∙ w.same); before = f.behind; clear = clear },
      ))

  -- behind a table
  pub searched_table : (c : Line) (u : Lines) (b : attributes.Attributes) (f : table.Table) (us : List table.Table) → Table ≡ kind_of l.bytes.now
      → FindsLine t l.bytes.now c u → said b ≡ nothing → f ≡ table_of text (at_line l a) (get_or l.bytes.now 0 0) l.next (closing_at c) → us ≡ ts ++ f ∷ []
      → Searched text u b us
  searched_table c u b f us e g clear is more =
      let found : FoundAt text (at_lines s a) f (at_lines u b) =
      record {
        close = closing_at c;
        opens = sym (e ∙ ap kind_of bytes);
        closes = at_text (λ xs o from low. Closes xs o from low (closing_at c)) _ _ _ _ _ _ _ _ (h.text ∙ w.same) bytes at h.behind g.closes;
        is =
            is
            ∙ ap (λ (m : ℕ). table_of text (at_line l a) m l.next (closing_at c)) (mark_at l.bytes.now)
            ∙ at_text (λ _ o from low. table_of text (at_line l a) (mark_of l.bytes.now) l.next (closing_at c)
            ≡ table_of text (record { at = l.start; before = low; attributes = a }) (mark_of o) from (closing_at c))
            text text _ _ _ _ _ _ refl bytes next h.before refl
            ∙ ap (λ (n : ℕ). table_of text (record { at = n; before = s.before; attributes = a }) (mark_of (line_at text s.at))
            (next_at text s.at) (closing_at c)) h.start;
        behind = record { at = g.at ∙ ap (λ (xs : List ℕ). next_at xs c.start) (h.text ∙ w.same); before = g.behind; clear = clear };
      } in
      record {
        same = g.text ∙ h.text ∙ w.same;
        reached = found_at text (at_lines s a) (at_lines u b) f ts us more w.reached inside found;
        framed = subst (λ (l : List table.Table). AllByRecursion (Framed text) l) (sym more)
            (All-push (Framed text) ts f w.framed (framed text (at_lines s a) f (at_lines u b) stands inside found));
      }
