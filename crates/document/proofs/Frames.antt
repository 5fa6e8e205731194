-- What is known of a table that the search finds, and of where the search comes to.
-- Assumes nothing.
use Rattle.std.proofs.Common.{◌≡◌, ℕ, ◌+◌, ◌<◌, Bool, true, false, cond, List, [], ◌∷◌, ◌++◌, length, take, sym, refl, ap, ◌∙◌, subst, arith}
use Rattle.document.specs.Lines.{line_at, next_at, is_line_start, feeds}
use Rattle.document.specs.Marks.{is_table_line, is_verbatim_line, is_attribute_line, is_aside, kind_of}
use Rattle.document.specs.Attributes.{said, nothing}
use Rattle.document.specs.Blocks.{Position, Stands, FoundAt, Reached, begun, found, Framed}
use Rattle.document.specs.declared.marks.LineKind.TheVariants.{Table, Verbatim, Attributes, Aside, Text}
use Rattle.document.specs.declared.table.Table as table

-- a line of the kind that opens a table is a delimiter line
kind_table : (xs : List ℕ) → kind_of xs ≡ Table → is_table_line xs ≡ true
kind_table xs h = go (is_table_line xs) (is_verbatim_line xs) (is_attribute_line xs) (is_aside xs) h
  where
    go : (a b c d : Bool) → cond a Table (cond b Verbatim (cond c Attributes (cond d Aside Text))) ≡ Table → a ≡ true
    go true b c d h = refl
    go false true c d h = let z : ◌≡◌ {A = ℕ} 0 1 = cc in absurd (omega arith)
    go false false true d h = let z : ◌≡◌ {A = ℕ} 0 1 = cc in absurd (omega arith)
    go false false false true h = let z : ◌≡◌ {A = ℕ} 0 1 = cc in absurd (omega arith)
    go false false false false h = let z : ◌≡◌ {A = ℕ} 0 1 = cc in absurd (omega arith)

pub framed : (text : List ℕ) (p : Position) (t : table.Table) (q : Position) → Stands text p.at p.before → p.at < length text
    → FoundAt text p t q → Framed text t
framed text p t q stands inside f =
    let start : t.start ≡ next_at text p.at = ap (λ (x : table.Table). x.start) f.is in
    let end' : t.end ≡ f.close.start = ap (λ (x : table.Table). x.end) f.is in
    let open' : t.open_line ≡ p.before + 1 = ap (λ (x : table.Table). x.open_line) f.is in
    let content' : t.content_line ≡ p.before + 2 = ap (λ (x : table.Table). x.content_line) f.is in
    record {
      from = p.at;
      begins = stands.begins inside;
      opens = kind_table (line_at text p.at) f.opens;
      content = start;
      inside = omega (arith, f.closes.forward);
      within = omega (arith, f.closes.inside);
      ends = ap (is_line_start text) end' ∙ f.closes.stands.begins f.closes.inside;
      closes = ap (line_at text) end' ∙ f.closes.same;
      first = λ k low high e same. f.closes.first k (omega (arith, start)) (omega (arith, end')) e same;
      mark = ap (λ (x : table.Table). x.mark) f.is;
      open_line = open' ∙ ap (λ (n : ℕ). n + 1) (stands.counted inside);
      close_line =
          ap (λ (x : table.Table). x.close_line) f.is
          ∙ ap (λ (n : ℕ). n + 1) (f.closes.stands.counted f.closes.inside)
          ∙ ap (λ (n : ℕ). feeds (take n text) + 1) (sym end');
      content_line = omega (arith, open', content');
    }

-- the front of a text, where nothing is found yet
pub begun_at : (text : List ℕ) (p : Position) (ts : List table.Table) → ts ≡ [] → p.at ≡ 0 → p.before ≡ 0 → said p.attributes ≡ nothing
    → Reached text p ts
begun_at text p ts e a b c = subst (λ (l : List table.Table). Reached text p l) (sym e) (begun a b c)

-- behind a table, where that is the last one found
pub found_at : (text : List ℕ) (p q : Position) (t : table.Table) (ts us : List table.Table) → us ≡ ts ++ t ∷ [] → Reached text p ts
    → p.at < length text → FoundAt text p t q → Reached text q us
found_at text p q t ts us e r inside f = subst (λ (l : List table.Table). Reached text q l) (sym e) (found r inside f)
