-- A tree that fits still does where a value is added under a new key.
use Rattle.std.proofs.Common.{◌≡◌, refl, sym, ◌∙◌, ap, subst, Bool, true, false, List, [], ◌∷◌, ◌++◌, append_assoc, inl, inr, None}
use Rattle.std.specs.Prelude.{◌&&◌, ◌||◌, not, if◌then◌else◌, nat_le, map}
use Rattle.std.specs.List.{AllByRecursion}
use Rattle.std.proofs.lemmas.Bool.{cases_Bool}
use Rattle.toml_edit_model.specs.Mode.{Mode}
use Rattle.toml_edit_model.specs.Text.{is_empty}
use Rattle.toml_edit_model.specs.Trivia.{IsWhiteSpace}
use Rattle.toml_edit_model.specs.Paths.{to_key}
use Rattle.toml_edit_model.specs.Syntax.{IsSpacedSegment, is_short, nesting_limit, depth, has_short_keys}
use Rattle.toml_edit_model.specs.Tree.{Key, Node, nothing, leaf, list, inline, table, tables, Slots, no_slots, slot, SlotsAreWellMade, Tree}
use Rattle.toml_edit_model.specs.HeaderOrder.{Visit, is_root}
use Rattle.toml_edit_model.specs.Print.{Line, segments, dot_prefix, line_of, value_of, is_line_node, inside_lines, lines_inside}
use Rattle.toml_edit_model.specs.Print.{table_lines, dotted_lines}
use Rattle.toml_edit_model.specs.Print.{lines_of, has_header, printed_line, printed_table}
use Rattle.toml_edit_model.specs.Fits.{PrintedLineSuits, FitsIn, is_steady_in}
use Rattle.toml_edit_model.specs.Slots.{keyed, lookup_slot}
use Rattle.toml_edit_model.specs.Lists.{slot_list}
use Rattle.toml_edit_laws.specs.Locality.{Turn, Leads, root_visit, edited, value_line, is_plain_value, has_block}
use Rattle.toml_edit_laws.proofs.common.Tests.{append-nil, and_left, and_right, not-true, true-false}
use Rattle.toml_edit_laws.proofs.common.Lists.{not_empty-last}
use Rattle.toml_edit_laws.proofs.common.Each.{all-append}
use Rattle.toml_edit_laws.proofs.locality.Blocks.{Block, block_of, is_headed}
use Rattle.toml_edit_laws.proofs.locality.Along.{Whole, tree_blocks}
use Rattle.toml_edit_laws.proofs.locality.Replacing.{itself}
use Rattle.toml_edit_laws.proofs.locality.Sound.{Steady, steady-parts}
use Rattle.toml_edit_laws.proofs.locality.Printing.{with_lines, lined}
use Rattle.toml_edit_laws.proofs.locality.Adding.{added, leads-root}
use Rattle.toml_edit_edit_laws.specs.DottedAdds.{lines_in}
use Rattle.toml_edit_edit_laws.specs.Fitting.{IsHarmlessSlot, StillFitsAfterLines}
use Rattle.toml_edit_edit_laws.proofs.path_calls.AfterLines.{empty-alike, M, N, whole, new-lines, as-before}
use Rattle.toml_edit_edit_laws.proofs.path_calls.AfterLines.{added_after_lines}
use Rattle.toml_edit_edit_laws.proofs.fitting.Lines.{keys-spaced, keys-short, added-suits, value-limits}
use Rattle.toml_edit_edit_laws.proofs.fitting.Limits.{KeepsLimits, HasLimits, limits-added}
use Rattle.toml_edit_edit_laws.proofs.fitting.Whole.{edited-fits}

-- ---- the keys of a table's lines

-- the keys go on from the first ones
abbrev GoesOn : List Key → Line → Type 0
GoesOn front l = (more : List Key) × (is_empty more ≡ false) × (l.keys ≡ front ++ more)

either-way : (P : Line → Type 0) (b : Bool) (xs ys : List Line) → AllByRecursion P xs → AllByRecursion P ys
    → AllByRecursion P (elim b [ true ↦ xs | false ↦ ys ])
either-way P true xs ys h g = h
either-way P false xs ys h g = g

module _ (mode : Mode) (front : List Key) where
  further : (ks more : List Key) (k : Key) → ks ≡ front ++ more → ks ++ (k ∷ []) ≡ front ++ (more ++ (k ∷ []))
  further ks more k e = ap (λ z. z ++ (k ∷ [])) e ∙ append_assoc front more (k ∷ [])

  mutual
    inside-on : (ss : Slots) (ks more : List Key) → ks ≡ front ++ more → AllByRecursion (GoesOn front) (inside_lines mode ss ks)
    inside-on no_slots ks more e = tt
    inside-on (slot k n ss) ks more e =
        let own = line_of (ks ++ (k ∷ [])) n (value_of mode n) in
        let inner = lines_inside mode n (ks ++ (k ∷ [])) in
        let on = further ks more k e in
        all-append (GoesOn front) (elim (is_line_node n) [ true ↦ own | false ↦ inner ]) (inside_lines mode ss ks)
        (either-way (GoesOn front) (is_line_node n) own inner ((more ++ (k ∷ []), not_empty-last more k, on), tt)
        (node-inside-on n (ks ++ (k ∷ [])) (more ++ (k ∷ [])) on))
        (inside-on ss ks more e)

    node-inside-on : (n : Node) (ks more : List Key) → ks ≡ front ++ more → AllByRecursion (GoesOn front) (lines_inside mode n ks)
    node-inside-on (inline f ss) ks more e = inside-on ss ks more e
    node-inside-on (table f ss) ks more e = inside-on ss ks more e
    node-inside-on (leaf s r d) ks more e = tt
    node-inside-on (list f xs) ks more e = tt
    node-inside-on (tables x xs) ks more e = tt
    node-inside-on nothing ks more e = tt

  mutual
    lines-on : (ss : Slots) (ks more : List Key) → ks ≡ front ++ more → AllByRecursion (GoesOn front) (table_lines mode ss ks)
    lines-on no_slots ks more e = tt
    lines-on (slot k n ss) ks more e =
        let own = line_of (ks ++ (k ∷ [])) n (value_of mode n) in
        let inner = dotted_lines mode n (ks ++ (k ∷ [])) in
        let on = further ks more k e in
        all-append (GoesOn front) (elim (is_line_node n) [ true ↦ own | false ↦ inner ]) (table_lines mode ss ks)
        (either-way (GoesOn front) (is_line_node n) own inner ((more ++ (k ∷ []), not_empty-last more k, on), tt)
        (dotted-on n (ks ++ (k ∷ [])) (more ++ (k ∷ [])) on))
        (lines-on ss ks more e)

    dotted-on : (n : Node) (ks more : List Key) → ks ≡ front ++ more → AllByRecursion (GoesOn front) (dotted_lines mode n ks)
    dotted-on (table f ss) ks more e = if_dotted f.is_dotted (lines-on ss ks more e)
      where
        if_dotted : (b : Bool) → AllByRecursion (GoesOn front) (table_lines mode ss ks)
            → AllByRecursion (GoesOn front) (if b then table_lines mode ss ks else [])
        if_dotted true g = g
        if_dotted false g = tt
    dotted-on (inline f ss) ks more e = inside-on ss ks more e
    dotted-on (leaf s r d) ks more e = tt
    dotted-on (list f xs) ks more e = tt
    dotted-on (tables x xs) ks more e = tt
    dotted-on nothing ks more e = tt

all-from-image : {A B : Type 0} (f : A → B) (P : B → Type 0) (xs : List A) → AllByRecursion P (map f xs)
    → AllByRecursion (λ x. P (f x)) xs
all-from-image f P [] h = tt
all-from-image f P (x ∷ xs) h = (h.0, all-from-image f P xs h.1)

first-line : (P Q : Line → Type 0) (ls : List Line) → is_empty ls ≡ false → AllByRecursion P ls → AllByRecursion Q ls
    → (l : Line) × P l × Q l
first-line P Q [] e h g = absurd cc
first-line P Q (l ∷ ls) e h g = (l, h.0, g.0)

module _ (mode : Mode) where
  -- another key after the same first ones
  spaced-after : (ks : List Key) (k : Key) (l : Line) → IsWhiteSpace (dot_prefix mode k) → GoesOn ks l
      → AllByRecursion IsSpacedSegment (segments mode l.keys) → AllByRecursion IsSpacedSegment (segments mode (ks ++ (k ∷ [])))
  spaced-after ks k l w ([], e, at) h = absurd cc
  spaced-after ks k l w (x ∷ xs, e, at) h =
      keys-spaced mode ks x xs k (λ d. w) (subst (λ z. AllByRecursion IsSpacedSegment (segments mode z)) at h)

  short-after : (ks : List Key) (k : Key) (l : Line) → GoesOn ks l → is_short (segments mode l.keys) ≡ true
      → is_short (segments mode (ks ++ (k ∷ []))) ≡ true
  short-after ks k l ([], e, at) h = absurd cc
  short-after ks k l (x ∷ xs, e, at) h = keys-short mode ks x xs k (subst (λ z. is_short (segments mode z) ≡ true) at h)

  -- ---- a block with a line more

  block-undotted : (way : List Turn) (t : Tree) (v : Visit) → t.root.is_dotted ≡ false → Leads way (root_visit t) v
      → has_block mode v ≡ true → v.fields.is_dotted ≡ false
  block-undotted way t v root e h = by_test (is_root v) refl h
    where
      by_test : (b : Bool) → is_root v ≡ b → (b || (not v.fields.is_dotted && has_header mode v)) ≡ true → v.fields.is_dotted ≡ false
      by_test true d g = subst (λ (x : Visit). x.fields.is_dotted ≡ false) (leads-root way t v e d) root
      by_test false d g = not-true v.fields.is_dotted (and_left (not v.fields.is_dotted) (has_header mode v) g)

  block-headed : (v : Visit) → has_block mode v ≡ true → is_empty v.keys ≡ false → is_headed (block_of mode v) ≡ true
  block-headed v h r = by_test (is_root v) r h
    where
      by_test : (b : Bool) → b ≡ false → (b || (not v.fields.is_dotted && has_header mode v)) ≡ true → has_header mode v ≡ true
      by_test true e g = absurd cc
      by_test false e g = and_right (not v.fields.is_dotted) (has_header mode v) g

  headed-more : (b : Block) (ls : List Line) → is_empty ls ≡ false → (is_empty b.keys ≡ false → is_headed b ≡ true)
      → is_headed (with_lines b ls) ≡ is_headed b
  headed-more b ls some has =
      elim (cases_Bool (is_empty b.keys)) [
        | inl e ↦ ap (λ z. not z && (b.is_element || not (b.fields.is_implicit && is_empty ls))) e
            ∙ ap (λ z. not z && (b.is_element || not (b.fields.is_implicit && is_empty b.lines))) (sym e)
        | inr e ↦ lined (with_lines b ls) e some ∙ sym (has e)
      ]

  module _ (t : Tree) (way : List Turn) (v : Visit) (k : Key) (n : Node)
      (made : SlotsAreWellMade t.slots) (steady : is_steady_in mode t ≡ true) (leads : Leads way (root_visit t) v)
      (is_new : lookup_slot k.name (slot_list v.slots) ≡ None) (plain : is_plain_value n ≡ true) (harmless : IsHarmlessSlot mode k n)
      (fits : FitsIn mode t) where
    abbrev u : Tree
    u = edited way (λ ss. ss ++ (keyed k n ∷ [])) t

    st : Steady mode t
    st = steady-parts mode t steady

    abbrev w : Whole mode (to_key v.path k.name) itself v (λ ss. ss ++ (keyed k n ∷ [])) (M mode t way v k n made st leads is_new plain)
        (N mode t way v k n made st leads is_new plain) [] [] (tree_blocks mode t) (tree_blocks mode u)
    w = whole mode t way v k n made st leads is_new plain

    -- the tree fits where there is a place for the key
    with-line : is_steady_in mode u ≡ true → is_headed (with_lines w.block w.lines) ≡ is_headed w.block
        → (AllByRecursion (PrintedLineSuits mode) (table_lines mode v.slots w.keys)
        → AllByRecursion IsSpacedSegment (segments mode (w.keys ++ (k ∷ []))))
        → HasLimits mode u → FitsIn mode u
    with-line stays same spaced limits =
        edited-fits mode (to_key v.path k.name) v (λ ss. ss ++ (keyed k n ∷ [])) (M mode t way v k n made st leads is_new plain)
        (N mode t way v k n made st leads is_new plain) [] tt way t st (steady-parts mode u stays) w same
        (λ h. all-append (PrintedLineSuits mode) (table_lines mode v.slots w.keys) (value_line mode (w.keys ++ (k ∷ [])) n ∷ []) h (
          added-suits mode w.keys k n harmless (spaced h),
          tt,
        ))
        limits fits

    in-block : has_block mode v ≡ true → FitsIn mode u
    in-block has =
        let law = added mode t way v k n made steady leads is_new plain has in
        let own : (w.block ≡ block_of mode v) × (w.keys ≡ []) =
        elim w.own [
          | inl e ↦ (e.0, e.2)
          | inr e ↦ true-false v.fields.is_dotted e (block-undotted way t v st.root leads has)
        ] in
        with-line law.1.2
        (headed-more w.block w.lines (new-lines mode t way v k n made st leads is_new plain)
        (λ r. ap is_headed own.0 ∙ block-headed v has (ap (λ (z : Block). is_empty z.keys) (sym own.0) ∙ r)))
        (λ h. subst (λ z. AllByRecursion IsSpacedSegment (segments mode (z ++ (k ∷ [])))) (sym own.1) ((refl, refl), tt))
        (limits-added mode t u law.0.before law.0.after (printed_table mode true v) (printed_line mode v.path (value_line mode (k ∷ []) n))
        law.0.first law.0.second (λ h. value-limits mode (k ∷ []) n harmless.3 refl) fits.limits)

    after-lines : is_empty (lines_of mode v) ≡ false → FitsIn mode u
    after-lines some =
        let law = added_after_lines mode t way v k n made steady leads is_new plain some in
        let c = law.0 in
        with-line law.1.2 (as-before mode t way v k n made st leads is_new plain some)
        (λ h.
        let (l, on, suits) =
        first-line (GoesOn w.keys) (PrintedLineSuits mode) (table_lines mode v.slots w.keys)
        (empty-alike mode v.slots w.keys [] ∙ some) (lines-on mode w.keys v.slots w.keys [] (sym (append-nil w.keys))) h in
        spaced-after w.keys k l harmless.1.0 on suits.0.segments)
        (limits-added mode t u c.before c.after (lines_in mode c.block c.keys v)
        (printed_line mode c.block (value_line mode (c.keys ++ (k ∷ [])) n)) c.first c.second
        (λ h.
        let (l, on, keeps) =
        first-line (GoesOn c.keys) (λ l. KeepsLimits (printed_line mode c.block l)) (table_lines mode v.slots c.keys)
        (empty-alike mode v.slots c.keys [] ∙ some) (lines-on mode c.keys v.slots c.keys [] (sym (append-nil c.keys)))
        (all-from-image (printed_line mode c.block) KeepsLimits (table_lines mode v.slots c.keys) h) in
        value-limits mode (c.keys ++ (k ∷ [])) n harmless.3
        (short-after c.keys k l on
        (and_left (is_short (segments mode l.keys)) (nat_le (depth l.value) nesting_limit && has_short_keys l.value) keeps)))
        fits.limits)

  pub still_fits_after_lines : StillFitsAfterLines mode
  still_fits_after_lines t way v k n made steady fits leads is_new plain some harmless =
      after-lines t way v k n made steady leads is_new plain harmless fits some

  pub added-fits : (t : Tree) (way : List Turn) (v : Visit) (k : Key) (n : Node) → SlotsAreWellMade t.slots → is_steady_in mode t ≡ true
      → Leads way (root_visit t) v
      → lookup_slot k.name (slot_list v.slots) ≡ None → is_plain_value n ≡ true → IsHarmlessSlot mode k n → FitsIn mode t
      → has_block mode v ≡ true → FitsIn mode (edited way (λ ss. ss ++ (keyed k n ∷ [])) t)
  added-fits = in-block
