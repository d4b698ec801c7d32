-- The statements at or below a path, and those outside of it, where the blocks are of one kind or the other.
use Rattle.std.proofs.Common.{◌≡◌, refl, sym, ◌∙◌, ap, subst, Bool, true, false, List, [], ◌∷◌, ◌++◌, append-nil}
use Rattle.std.specs.Prelude.{◌&&◌, ◌||◌, not, filter, flat_map, map, if◌then◌else◌, is_some}
use Rattle.std.specs.List.{AllByRecursion}
use Rattle.std.proofs.lemmas.List.Elements.{filter-append}
use Rattle.toml_edit_model.specs.Mode.{Mode, line_end, line_newline}
use Rattle.toml_edit_model.specs.Text.{Text, is_empty}
use Rattle.toml_edit_model.specs.Syntax.{Header, header}
use Rattle.toml_edit_model.specs.Paths.{Path}
use Rattle.toml_edit_model.specs.Tree.{shown_suffix}
use Rattle.toml_edit_model.specs.Fits.{has_own_prefix, has_steady_header}
use Rattle.toml_edit_model.specs.HeaderOrder.{Visit}
use Rattle.toml_edit_model.specs.Print.{Printed, header_default, header_of, header_suffix, is_lifted, key_prefix, last_leaf}
use Rattle.toml_edit_model.specs.Print.{header_statement, lifted_prefix, printed_line, segments}
use Rattle.toml_edit_laws.proofs.common.Each.{all-append, all-image, all-map}
use Rattle.toml_edit_laws.proofs.common.PathLaws.{is_front}
use Rattle.toml_edit_laws.proofs.common.Tests.{and_left, and_right, if-false}
use Rattle.toml_edit_laws.proofs.locality.Blocks.{Block, bare, block_printed, is_headed, IsSteadyBlock, own-prefix}
use Rattle.toml_edit_laws.proofs.locality.Filtering.{filter-all, keeps}
use Rattle.toml_edit_laws.proofs.locality.Printing.{block-out}
use Rattle.toml_edit_laws.proofs.locality.Under.{IsBlockOut, IsBlockUnder}
use Rattle.toml_edit_edit_laws.proofs.headers.Seats.{Seated, block_shown, shown}

pub filter-none : {A : Type 0} (test : A → Bool) (xs : List A) → AllByRecursion (λ x. test x ≡ false) xs → filter test xs ≡ []
filter-none test [] h = refl
filter-none test (x ∷ xs) h = if-false (test x) (x ∷ filter test xs) (filter test xs) h.0 ∙ filter-none test xs h.1

module _ (mode : Mode) where
  -- ---- a steady block

  header-same : (d : Bool) (v : Visit) → has_own_prefix v.fields.decor.prefix ≡ true → header_of mode d v ≡ header_of mode true v
  header-same d v h =
      let made : Text → Header = λ t.
      record {
        leading = lifted_prefix mode v ++ t;
        is_array = v.is_element;
        opening = if is_lifted mode v then [] else key_prefix mode v;
        path = segments mode v.keys;
        closing = if is_lifted mode v then [] else shown_suffix mode [] (last_leaf v.keys);
        trailing = line_end mode (header_suffix mode v);
      } in
      ap made (own-prefix mode (header_default d) (header_default true) v.fields.decor.prefix h)

  -- it is shown alike wherever it is
  pub shown-steady : (d : Bool) (b : Block) → IsSteadyBlock b → block_shown mode d b ≡ block_printed mode b
  shown-steady d b h = ap (λ hs. hs ++ map (printed_line mode b.path) b.lines) (by_test (is_headed b) h)
    where
      one_header : Header → List Printed
      one_header x = record { block = b.path; path = b.path; statement = header x (line_newline mode (header_suffix mode (bare b))) } ∷ []

      by_test : (c : Bool) → (not c || has_steady_header (bare b)) ≡ true
          → (if c then one_header (header_of mode d (bare b)) else []) ≡ (if c then one_header (header_of mode true (bare b)) else [])
      by_test true h =
          ap one_header
          (header-same d (bare b)
          (and_right (is_some b.fields.position) (has_own_prefix b.fields.decor.prefix)
          (and_left (is_some b.fields.position && has_own_prefix b.fields.decor.prefix) (b.is_element || not b.fields.is_implicit) h)))
      by_test false h = refl

  module _ (q : Path) where
    abbrev pub is_own : Seated → Bool
    is_own p = is_front q p.1.path

    abbrev pub is_last : Seated → Bool
    is_last p = is_own p && is_headed p.1

    -- A block at or below the path has lines only under its header; another one is steady.
    abbrev pub IsOwn : Block → Type 0
    IsOwn b = IsBlockUnder q b × (is_headed b ≡ false → b.lines ≡ [])

    abbrev pub IsOther : Block → Type 0
    IsOther b = IsBlockOut q b × IsSteadyBlock b

    abbrev pub IsEither : Block → Type 0
    IsEither b = (is_front q b.path ≡ true → IsOwn b) × (is_front q b.path ≡ false → IsOther b)

    abbrev pub is_in : Printed → Bool
    is_in s = is_front q s.path

    own-in : (d : Bool) (b : Block) → IsOwn b → AllByRecursion (λ s. is_in s ≡ true) (block_shown mode d b)
    own-in d b h =
        all-append (λ s. is_in s ≡ true)
        (if is_headed b then record { block = b.path; path = b.path; statement = header_statement mode d (bare b) } ∷ [] else [])
        (map (printed_line mode b.path) b.lines) (by_test (is_headed b))
        (all-image (printed_line mode b.path) (λ s. is_in s ≡ true) b.lines h.0.1)
      where
        by_test : (c : Bool) → AllByRecursion (λ s. is_in s ≡ true)
            (if c then record { block = b.path; path = b.path; statement = header_statement mode d (bare b) } ∷ [] else [])
        by_test true = (h.0.0, tt)
        by_test false = tt

    other-out : (d : Bool) (b : Block) → IsOther b → AllByRecursion (λ s. is_in s ≡ false) (block_shown mode d b)
    other-out d b h = subst (AllByRecursion (λ s. is_in s ≡ false)) (sym (shown-steady d b h.1)) (block-out mode q b h.0)

    -- an own block without a header prints nothing
    own-nothing : (d : Bool) (b : Block) → IsOwn b → is_headed b ≡ false → block_shown mode d b ≡ []
    own-nothing d b h e =
        ap (λ z. z ++ map (printed_line mode b.path) b.lines)
        (if-false (is_headed b) (record { block = b.path; path = b.path; statement = header_statement mode d (bare b) } ∷ []) [] e)
        ∙ ap (map (printed_line mode b.path)) (h.1 e)

    abbrev IsSeatEither : Seated → Type 0
    IsSeatEither p = IsEither p.1

    -- ---- outside

    pub outside-shown : (d : Bool) (ps : List Seated) → AllByRecursion IsSeatEither ps
        → filter (keeps mode q) (shown mode d ps) ≡ flat_map (λ p. block_printed mode p.1) (filter (λ p. not (is_own p)) ps)
    outside-shown d [] h = refl
    outside-shown d (p ∷ ps) h =
        filter-append (keeps mode q) (block_shown mode d p.1) (shown mode (d && is_empty (block_shown mode d p.1)) ps)
        ∙ by_test (is_own p) refl (outside-shown (d && is_empty (block_shown mode d p.1)) ps h.1)
      where
        by_test : (c : Bool) → is_own p ≡ c
            → filter (keeps mode q) (shown mode (d && is_empty (block_shown mode d p.1)) ps)
            ≡ flat_map (λ p. block_printed mode p.1) (filter (λ p. not (is_own p)) ps)
            → filter (keeps mode q) (block_shown mode d p.1)
            ++ filter (keeps mode q) (shown mode (d && is_empty (block_shown mode d p.1)) ps)
            ≡ flat_map (λ p. block_printed mode p.1) (if not c then p ∷ filter (λ p. not (is_own p)) ps
            else filter (λ p. not (is_own p)) ps)
        by_test true e ih =
            ap (λ z. z ++ filter (keeps mode q) (shown mode (d && is_empty (block_shown mode d p.1)) ps))
            (filter-none (keeps mode q) (block_shown mode d p.1)
            (all-map (λ s. is_in s ≡ true) (λ s. keeps mode q s ≡ false) (block_shown mode d p.1) (λ s g. ap not g) (own-in d p.1 (h.0.0 e))))
            ∙ ih
        by_test false e ih =
            let o = h.0.1 e in
            ap (λ z. z ++ filter (keeps mode q) (shown mode (d && is_empty (block_shown mode d p.1)) ps))
            (filter-all (keeps mode q) (block_shown mode d p.1)
            (all-map (λ s. is_in s ≡ false) (λ s. keeps mode q s ≡ true) (block_shown mode d p.1) (λ s g. ap not g) (other-out d p.1 o))
            ∙ shown-steady d p.1 o.1)
            ∙ ap (λ z. block_printed mode p.1 ++ z) ih

    -- ---- inside

    pub none-shown : (d : Bool) (ps : List Seated) → AllByRecursion IsSeatEither ps → filter is_last ps ≡ []
        → filter is_in (shown mode d ps) ≡ []
    none-shown d [] h none = refl
    none-shown d (p ∷ ps) h none =
        filter-append is_in (block_shown mode d p.1) (shown mode (d && is_empty (block_shown mode d p.1)) ps)
        ∙ by_test (is_own p) (is_headed p.1) refl refl none (none-shown (d && is_empty (block_shown mode d p.1)) ps h.1)
      where
        by_test : (c e : Bool) → is_own p ≡ c → is_headed p.1 ≡ e
            → (if c && e then p ∷ filter is_last ps else filter is_last ps) ≡ []
            → (filter is_last ps ≡ [] → filter is_in (shown mode (d && is_empty (block_shown mode d p.1)) ps) ≡ [])
            → filter is_in (block_shown mode d p.1) ++ filter is_in (shown mode (d && is_empty (block_shown mode d p.1)) ps) ≡ []
        by_test true true c e g ih = absurd cc
        by_test true false c e g ih =
            ap (λ z. filter is_in z ++ filter is_in (shown mode (d && is_empty (block_shown mode d p.1)) ps)) (own-nothing d p.1 (h.0.0 c) e)
            ∙ ih g
        by_test false true c e g ih =
            ap (λ z. z ++ filter is_in (shown mode (d && is_empty (block_shown mode d p.1)) ps))
            (filter-none is_in (block_shown mode d p.1) (other-out d p.1 (h.0.1 c))) ∙ ih g
        by_test false false c e g ih =
            ap (λ z. z ++ filter is_in (shown mode (d && is_empty (block_shown mode d p.1)) ps))
            (filter-none is_in (block_shown mode d p.1) (other-out d p.1 (h.0.1 c))) ∙ ih g

    -- the statements at or below the path are those of the one block with a header
    pub one-shown : (d : Bool) (ps : List Seated) (x : Seated) → AllByRecursion IsSeatEither ps → filter is_last ps ≡ x ∷ []
        → (e : Bool) × (filter is_in (shown mode d ps) ≡ block_shown mode e x.1)
    one-shown d [] x h one = absurd cc
    one-shown d (p ∷ ps) x h one =
        by_test (is_own p) (is_headed p.1) refl refl one (one-shown (d && is_empty (block_shown mode d p.1)) ps x h.1)
        (none-shown (d && is_empty (block_shown mode d p.1)) ps h.1)
      where
        further : filter is_in (block_shown mode d p.1) ≡ []
            → (e : Bool) × (filter is_in (shown mode (d && is_empty (block_shown mode d p.1)) ps) ≡ block_shown mode e x.1)
            → (e : Bool) × (filter is_in (shown mode d (p ∷ ps)) ≡ block_shown mode e x.1)
        further none r = (
          r.0,
          filter-append is_in (block_shown mode d p.1) (shown mode (d && is_empty (block_shown mode d p.1)) ps)
              ∙ ap (λ z. z ++ filter is_in (shown mode (d && is_empty (block_shown mode d p.1)) ps)) none ∙ r.1,
        )

        by_test : (c e : Bool) → is_own p ≡ c → is_headed p.1 ≡ e
            → (if c && e then p ∷ filter is_last ps else filter is_last ps) ≡ x ∷ []
            → (filter is_last ps ≡ x ∷ []
            → (e : Bool) × (filter is_in (shown mode (d && is_empty (block_shown mode d p.1)) ps) ≡ block_shown mode e x.1))
            → (filter is_last ps ≡ [] → filter is_in (shown mode (d && is_empty (block_shown mode d p.1)) ps) ≡ [])
            → (e : Bool) × (filter is_in (shown mode d (p ∷ ps)) ≡ block_shown mode e x.1)
        by_test true true c e g ih none =
            let head : p ≡ x = cc in
            let tail : filter is_last ps ≡ [] = cc in (
              d,
              filter-append is_in (block_shown mode d p.1) (shown mode (d && is_empty (block_shown mode d p.1)) ps)
                  ∙ ap (λ z. filter is_in (block_shown mode d p.1) ++ z) (none tail)
                  ∙ append-nil (filter is_in (block_shown mode d p.1))
                  ∙ filter-all is_in (block_shown mode d p.1) (own-in d p.1 (h.0.0 c))
                  ∙ ap (λ (y : Seated). block_shown mode d y.1) head,
            )
        by_test true false c e g ih none = further (ap (filter is_in) (own-nothing d p.1 (h.0.0 c) e)) (ih g)
        by_test false true c e g ih none = further (filter-none is_in (block_shown mode d p.1) (other-out d p.1 (h.0.1 c))) (ih g)
        by_test false false c e g ih none = further (filter-none is_in (block_shown mode d p.1) (other-out d p.1 (h.0.1 c))) (ih g)
