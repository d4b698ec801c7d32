-- The tables of the headers of a document, in the order of the text.
use Rattle.std.proofs.Common.{◌≡◌, ◌≤◌, refl, sym, ◌∙◌, ap, subst, ℕ, suc, ◌+◌, arith, Bool, true, false, List, [], ◌∷◌, ◌++◌, inl, inr}
use Rattle.std.specs.Prelude.{◌&&◌, ◌||◌, filter, ◌==◌, if◌then◌else◌}
use Rattle.std.specs.List.{AllByRecursion, list_any}
use Rattle.std.proofs.lemmas.Bool.{cases_Bool, eq-eqb, eqb-true}
use Rattle.std.proofs.lemmas.List.Elements.{filter-append}
use Rattle.toml_edit_model.specs.Mode.{Mode}
use Rattle.toml_edit_model.specs.Text.{one}
use Rattle.toml_edit_model.specs.Syntax.{Statement, key_line, header}
use Rattle.toml_edit_model.specs.Paths.{Path, Mention, Source, Context, source_of, mentions_of, context_after, path_start, placed_from}
use Rattle.toml_edit_model.specs.TreeOf.{owned_in, AreSlotsOf}
use Rattle.toml_edit_model.specs.Tree.{Slots}
use Rattle.toml_edit_model.specs.HeaderOrder.{Visit, slots_walk}
use Rattle.toml_edit_laws.proofs.common.Tests.{and_left, and_right, or-left, or-right, true-false}
use Rattle.toml_edit_laws.proofs.common.Members.{Among}
use Rattle.toml_edit_laws.proofs.print_of_read.SortedLists.{IsAscending}
use Rattle.toml_edit_laws.proofs.print_of_read.LevelFacts.{among-filter}
use Rattle.toml_edit_laws.proofs.print_of_read.Chunks.{Chunk, chunks}
use Rattle.toml_edit_laws.proofs.print_of_read.ChunkFacts.{is_heading, line-opens, no-heading, other-heading, IsChunk}
use Rattle.toml_edit_laws.proofs.print_of_read.NoVisits.{numbered, none-below, none-kept, slots-none}
use Rattle.toml_edit_laws.proofs.print_of_read.HeaderVisits.{none-filtered}
use Rattle.toml_edit_laws.proofs.print_of_read.HeadersInOrder.{number_of, has_number, set-number}
use Rattle.toml_edit_laws.proofs.mentions.Placed.{mentions_in, own-sources}
use Rattle.toml_edit_laws.proofs.print_of_read.Seats.{IsVisit}
use Rattle.toml_edit_model.specs.TableMentions.{kept}

-- ---- numbers of headers

abbrev pub chunk_number : Chunk → ℕ
chunk_number ch = ch.head.source.headers

-- the headers are numbered one after another
abbrev pub AreNumbered : ℕ → List Chunk → Type 0
AreNumbered m [] = Unit {0}
AreNumbered m (ch ∷ cs) = (chunk_number ch ≡ suc m) × AreNumbered (suc m) cs

pub chunk-numbers : (c : Context) (ss : List Statement) → AreNumbered c.headers (chunks c ss)
chunk-numbers c [] = tt
chunk-numbers c (key_line f v end ∷ ss) = chunk-numbers (context_after c (key_line f v end)) ss
chunk-numbers c (header h end ∷ ss) = (refl, chunk-numbers (context_after c (header h end)) ss)

abbrev pub has_chunk : ℕ → List Chunk → Bool
has_chunk n cs = list_any (λ ch. chunk_number ch == n) cs

-- without a header of the number no mention is of one
pub no-chunk : (c : Context) (ss : List Statement) (n : ℕ) → has_chunk n (chunks c ss) ≡ false
    → filter (is_heading n) (mentions_in (placed_from c ss)) ≡ []
no-chunk c [] n h = refl
no-chunk c (key_line f v end ∷ ss) n h =
    let d : Context = context_after c (key_line f v end) in
    filter-append (is_heading n) (mentions_of c (key_line f v end)) (mentions_in (placed_from d ss))
    ∙ ap (λ xs. xs ++ filter (is_heading n) (mentions_in (placed_from d ss)))
    (no-heading n (mentions_of c (key_line f v end)) (line-opens (source_of c (key_line f v end)) (c.start
    + path_start (key_line f v end)) c.block f.path))
    ∙ no-chunk d ss n h
no-chunk c (header hd end ∷ ss) n h =
    let d : Context = context_after c (header hd end) in
    filter-append (is_heading n) (mentions_of c (header hd end)) (mentions_in (placed_from d ss))
    ∙ ap (λ xs. xs ++ filter (is_heading n) (mentions_in (placed_from d ss)))
    (other-heading n (source_of c (header hd end)) (mentions_of c (header hd end)) (own-sources c (header hd end))
    (or-left (suc c.headers == n) (has_chunk n (chunks d ss)) h))
    ∙ no-chunk d ss n (or-right (suc c.headers == n) (has_chunk n (chunks d ss)) h)

has-number : (n : ℕ) (v : Visit) → numbered n v ≡ true → (has_number v ≡ true) × (number_of v ≡ n)
has-number n v h =
    let both : (has_number v && (number_of v == n)) ≡ true = set-number n v.fields.position ∙ h in
    (and_left (has_number v) (number_of v == n) both, eqb-true (number_of v) n (and_right (has_number v) (number_of v == n) both))

below-above : (n : ℕ) (v : Visit) (us : List Visit) → number_of v ≡ n → AllByRecursion (λ u. suc n ≤ number_of u) us
    → AllByRecursion (λ u. number_of v ≤ number_of u) us
below-above n v [] e h = tt
below-above n v (u ∷ us) e h =
    let more : suc n ≤ number_of u = h.0 in
    let same : number_of v ≡ n = e in
    (omega arith, below-above n v us e h.1)

other-table : (n k : ℕ) (v : Visit) → numbered k v ≡ true → (k == n) ≡ false → numbered n v ≡ false
other-table n k v h e =
    elim (cases_Bool (numbered n v)) [
      | inl g ↦
          let first : number_of v ≡ k = (has-number k v h).1 in
          let second : number_of v ≡ n = (has-number n v g).1 in
          true-false (k == n) (eq-eqb k n (sym first ∙ second)) e
      | inr g ↦ g
    ]

none-above : (n : ℕ) (us : List Visit) → AllByRecursion (λ v. has_number v ≡ true) us → AllByRecursion (λ u. suc n ≤ number_of u) us
    → filter (numbered n) us ≡ []
none-above n [] h g = refl
none-above n (u ∷ us) h g =
    let apart : numbered n u ≡ false =
    (elim (cases_Bool (numbered n u)) [
      | inl e ↦ (let same : number_of u ≡ n = (has-number n u e).1 in let more : suc n ≤ number_of u = g.0 in absurd (omega arith))
      | inr e ↦ e
    ]) in
    rw apart (none-above n us h.1 g.1)

module _ (mode : Mode) where
  -- ---- their tables

  -- the table of a header in the walk
  pub record HasTable (all : List (Mention Source)) (vs : List Visit) (ch : Chunk) : Type 0 where
    pub is : IsChunk all ch
    pub visit : Visit
    pub walk : filter (numbered (chunk_number ch)) vs ≡ one visit
    pub visit_is : IsVisit mode all ch.block is.last.role is.last.source visit

  abbrev pub tables_of : (all : List (Mention Source)) (vs : List Visit) (cs : List Chunk) → AllByRecursion (HasTable all vs) cs
      → List Visit
  tables_of all vs [] h = []
  tables_of all vs (ch ∷ cs) h = h.0.visit ∷ tables_of all vs cs h.1

  table-number : (all : List (Mention Source)) (vs : List Visit) (ch : Chunk) (h : HasTable all vs ch) → Among h.visit vs
      × (numbered (chunk_number ch) h.visit ≡ true)
  table-number all vs ch h = among-filter (numbered (chunk_number ch)) h.visit vs (subst (Among h.visit) (sym h.walk) (inl refl))

  pub table-among : (all : List (Mention Source)) (vs : List Visit) (ch : Chunk) (h : HasTable all vs ch) → Among h.visit vs
  table-among all vs ch h = (table-number all vs ch h).0

  pub tables-numbers : (all : List (Mention Source)) (vs : List Visit) (cs : List Chunk) (h : AllByRecursion (HasTable all vs) cs)
      → AllByRecursion (λ v. has_number v ≡ true) (tables_of all vs cs h)
  tables-numbers all vs [] h = tt
  tables-numbers all vs (ch ∷ cs) h =
      ((has-number (chunk_number ch) h.0.visit (table-number all vs ch h.0).1).0, tables-numbers all vs cs h.1)

  tables-above : (all : List (Mention Source)) (vs : List Visit) (m : ℕ) (cs : List Chunk) (h : AllByRecursion (HasTable all vs) cs)
      → AreNumbered m cs
      → (n : ℕ) → n ≤ m → AllByRecursion (λ v. suc n ≤ number_of v) (tables_of all vs cs h)
  tables-above all vs m [] h g n e = tt
  tables-above all vs m (ch ∷ cs) h g n e =
      let low : n ≤ m = e in
      let is : number_of h.0.visit ≡ chunk_number ch = (has-number (chunk_number ch) h.0.visit (table-number all vs ch h.0).1).1 in
      let next : chunk_number ch ≡ suc m = g.0 in
      (omega arith, tables-above all vs (suc m) cs h.1 g.1 n (omega arith))

  pub tables-ascending : (all : List (Mention Source)) (vs : List Visit) (m : ℕ) (cs : List Chunk) (h : AllByRecursion (HasTable all vs) cs)
      → AreNumbered m cs
      → IsAscending number_of (tables_of all vs cs h)
  tables-ascending all vs m [] h g = tt
  tables-ascending all vs m (ch ∷ cs) h g =
      let is : number_of h.0.visit ≡ suc m = (has-number (chunk_number ch) h.0.visit (table-number all vs ch h.0).1).1 ∙ g.0 in (
        below-above (suc m) h.0.visit (tables_of all vs cs h.1) is (tables-above all vs (suc m) cs h.1 g.1 (suc m) (omega arith)),
        tables-ascending all vs (suc m) cs h.1 g.1,
      )

  -- a number keeps of them its table, where there is one
  tables-kept : (all : List (Mention Source)) (vs : List Visit) (m : ℕ) (cs : List Chunk) (h : AllByRecursion (HasTable all vs) cs)
      → AreNumbered m cs → (n : ℕ)
      → filter (numbered n) (tables_of all vs cs h) ≡ (if has_chunk n cs then filter (numbered n) vs else [])
  tables-kept all vs m [] h g n = refl
  tables-kept all vs m (ch ∷ cs) h g n =
      by_test (chunk_number ch == n) refl (tables-kept all vs (suc m) cs h.1 g.1 n)
    where
      rest : List Visit
      rest = tables_of all vs cs h.1

      own : numbered (chunk_number ch) h.0.visit ≡ true
      own = (table-number all vs ch h.0).1

      by_test : (b : Bool) → (chunk_number ch == n) ≡ b → filter (numbered n) rest ≡ (if has_chunk n cs then filter (numbered n) vs else [])
          → filter (numbered n) (h.0.visit ∷ rest) ≡ (if b || has_chunk n cs then filter (numbered n) vs else [])
      by_test true e ih =
          let same : chunk_number ch ≡ n = eqb-true (chunk_number ch) n e in
          let here : numbered n h.0.visit ≡ true = subst (λ k. numbered k h.0.visit ≡ true) same own in
          let none : filter (numbered n) rest ≡ [] =
          none-above n rest (tables-numbers all vs cs h.1)
          (tables-above all vs (suc m) cs h.1 g.1 n (let next : chunk_number ch ≡ suc m = g.0 in omega arith)) in
          ap (λ b. if b then h.0.visit ∷ filter (numbered n) rest else filter (numbered n) rest) here
          ∙ ap (λ us. h.0.visit ∷ us) none ∙ sym h.0.walk ∙ ap (λ k. filter (numbered k) vs) same
      by_test false e ih =
          ap (λ b. if b then h.0.visit ∷ filter (numbered n) rest
          else filter (numbered n) rest) (other-table n (chunk_number ch) h.0.visit own e) ∙ ih

  -- Each number keeps the same of the walk and of the headers' tables.
  pub tables-same : (c : Context) (ss : List Statement) (ts : Slots) (p : Path)
      → AreSlotsOf (owned_in mode) (mentions_in (placed_from c ss)) (kept (mentions_in (placed_from c ss))) ts
      → (h : AllByRecursion (HasTable (mentions_in (placed_from c ss)) (slots_walk ts p [])) (chunks c ss)) (n : ℕ)
      → filter (numbered n) (slots_walk ts p []) ≡ filter (numbered n)
      (tables_of (mentions_in (placed_from c ss)) (slots_walk ts p []) (chunks c ss) h)
  tables-same c ss ts p slots h n =
      by_test (has_chunk n (chunks c ss)) refl ∙ sym (tables-kept all vs c.headers (chunks c ss) h (chunk-numbers c ss) n)
    where
      all : List (Mention Source)
      all = mentions_in (placed_from c ss)

      vs : List Visit
      vs = slots_walk ts p []

      by_test : (b : Bool) → has_chunk n (chunks c ss) ≡ b → filter (numbered n) vs ≡ (if b then filter (numbered n) vs else [])
      by_test true e = refl
      by_test false e =
          let none = none-below n all (none-filtered n all (no-chunk c ss n e)) in
          slots-none mode n all (kept all) ts p [] none (none-kept n all none) slots
