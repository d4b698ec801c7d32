-- One key of a path that is no header's, after others: the slot that it gets or goes through, and what the key's own table sees.
use Rattle.std.proofs.Common.{◌≡◌, refl, sym, ◌∙◌, ap, subst, ℕ, true, false, List, [], ◌∷◌, ◌++◌, append_assoc, Option, Some, None, inl}
use Rattle.std.proofs.Common.{inr}
use Rattle.std.specs.Prelude.{◌&&◌, ◌||◌, not, if◌then◌else◌, is_some}
use Rattle.std.proofs.Math.Bool.{and-false}
use Rattle.toml_edit_model.specs.Mode.{Mode}
use Rattle.toml_edit_model.specs.Syntax.{Segment}
use Rattle.toml_edit_model.specs.Paths.{at_key, same_path, to_key, Mention, Source, mention_of}
use Rattle.toml_edit_model.specs.Tree.{Node, Slots}
use Rattle.toml_edit_model.specs.TreeOf.{spanned_in, key_at, AreSlotsOf}
use Rattle.toml_edit_laws.specs.FlatTree.{with_slot}
use Rattle.toml_edit_laws.specs.InlineTree.{with_node}
use Rattle.toml_edit_laws.proofs.common.Tests.{append-nil, or-false, true-false}
use Rattle.toml_edit_laws.proofs.mentions.GatherLaws.{all_deeper, kept-append, plain-slot, first_of_key, AreHeadless}
use Rattle.toml_edit_laws.proofs.inline_tables.InlineBuild.{path_of, under-others, under-all}
use Rattle.toml_edit_laws.proofs.adding.TableMentions.{IsReached, AreOfTable, of_step, of_later, kept-some, one_slot}
use Rattle.toml_edit_laws.proofs.adding.TableSlots.{IsSlotNode, slots-same, slots-kept, slots-add, slots-change, AreAllSlots}
use Rattle.toml_edit_laws.proofs.adding.DeeperMentions.{kept-more}
use Rattle.toml_edit_laws.proofs.mentions.SomeAt.{own_mention, under-own-mention}
use Rattle.toml_edit_laws.proofs.mentions.Named.{AreNamed}
use Rattle.toml_edit_model.specs.Roles.{Role, is_header_role, any_role}
use Rattle.toml_edit_model.specs.TableMentions.{under, own, some_at, kept}

-- ---- which slots a path has whose first segment heads no table

-- one mention that is no header's
headless-one : {S : Type 0} (m : Mention S) → is_header_role m.role ≡ false → AreHeadless (m ∷ [])
headless-one m h p = ap (λ b. (same_path m.path p && b) || false) h ∙ or-false (same_path m.path p && false)
    ∙ and-false (same_path m.path p)

pub kept-passed : {S : Type 0} (source : S) (start : ℕ) (role : Role) (g : Segment) (below ms : List (Mention S)) → is_header_role role
    ≡ false → own below ≡ []
    → kept (ms ++ path_of source start role g below)
    ≡ kept ms ++ (if not (some_at any_role (at_key g.key ∷ []) ms) then mention_of source start (to_key [] g.key) role g ∷ [] else [])
kept-passed source start role g below ms plain none =
    let m = mention_of source start (to_key [] g.key) role g in
    ap kept (sym (append_assoc ms (m ∷ []) (all_deeper (at_key g.key) below)))
    ∙ kept-more (ms ++ (m ∷ [])) (at_key g.key) below none
    ∙ kept-append ms (m ∷ []) (headless-one m plain)
    ∙ ap (λ b. kept ms ++ (if b then m ∷ [] else [])) (plain-slot ms m [] (headless-one m plain))

-- a new key gets a slot, and one that is there gets none
pub kept-new : {S : Type 0} (source : S) (start : ℕ) (role : Role) (g : Segment) (below ms : List (Mention S))
    → AreNamed ms → is_header_role role ≡ false → own below ≡ [] → first_of_key g.key (kept ms) ≡ None
    → kept (ms ++ path_of source start role g below) ≡ kept ms ++ (mention_of source start (to_key [] g.key) role g ∷ [])
kept-new source start role g below ms named plain none new =
    let m = mention_of source start (to_key [] g.key) role g in
    let free : some_at any_role (at_key g.key ∷ []) ms ≡ false = sym (kept-some g.key ms named) ∙ ap is_some new in
    kept-passed source start role g below ms plain none ∙ ap (λ b. kept ms ++ (if not b then m ∷ [] else [])) free

pub kept-old : {S : Type 0} (source : S) (start : ℕ) (role : Role) (g : Segment) (below ms : List (Mention S)) (j : Mention S)
    → AreNamed ms → is_header_role role ≡ false → own below ≡ [] → first_of_key g.key (kept ms) ≡ Some j
    → kept (ms ++ path_of source start role g below) ≡ kept ms
kept-old source start role g below ms j named plain none old =
    let m = mention_of source start (to_key [] g.key) role g in
    let seen : some_at any_role (at_key g.key ∷ []) ms ≡ true = sym (kept-some g.key ms named) ∙ ap is_some old in
    kept-passed source start role g below ms plain none
    ∙ ap (λ b. kept ms ++ (if not b then m ∷ [] else [])) seen
    ∙ append-nil (kept ms)

-- a mention of a table itself gets no slot, and is under no key
pub kept-own : {S : Type 0} (source : S) (start : ℕ) (role : Role) (g : Segment) (ms : List (Mention S)) → is_header_role role ≡ false
    → kept (ms ++ (own_mention source start role g ∷ [])) ≡ kept ms
kept-own source start role g ms plain =
    kept-append ms (own_mention source start role g ∷ []) (headless-one (own_mention source start role g) plain) ∙ append-nil (kept ms)

-- what a key's own table sees of a path that goes through it, and of what was before
pub of_own : (source : Source) (start : ℕ) (role : Role) (g : Segment) (ms : List (Mention Source)) → is_header_role role ≡ false
    → AreOfTable ms
    → AreOfTable (under (at_key g.key) ms ++ (own_mention source start role g ∷ []))
of_own source start role g ms plain are =
    let here = under (at_key g.key) ms in
    let m = own_mention source start role g in
    of_later here (m ∷ []) (of_step (at_key g.key) ms are) (inl refl, tt) (headless-one m plain) (λ is. refl, tt)
    (λ x a.
    elim a [
      | inl e ↦ subst (λ p. IsReached p (here ++ (m ∷ []))) (sym (ap (λ (y : Mention Source). y.path) e)) tt
      | inr e ↦ elim e [ ]
    ])
    (λ x a is.
    elim a [
      | inl e ↦ true-false (is_header_role x.role) is (ap (λ (y : Mention Source). is_header_role y.role) e ∙ plain)
      | inr e ↦ elim e [ ]
    ])

module _ (mode : Mode) where
  abbrev pub AreSlots : List (Mention Source) → Slots → Type 0
  AreSlots ms ss = AreAllSlots (spanned_in mode) ms ss

  -- how the rest of a path is added, to any slots of mentions
  abbrev pub GoesOn : (Slots → Option Slots) → List (Mention Source) → Type 0
  GoesOn add below = (xs : List (Mention Source)) (ss next : Slots) → AreOfTable xs → AreSlots xs ss → add ss ≡ Some next
      → AreSlots (xs ++ below) next

  -- its slots, once what is further on is added to those of what was before
  pub slots-through : (source : Source) (start : ℕ) (role : Role) (g : Segment) (below ms : List (Mention Source)) (add : Slots
      → Option Slots) (inner next : Slots)
      → is_header_role role ≡ false → AreOfTable ms → AreSlots (under (at_key g.key) ms) inner → GoesOn add below → add inner ≡ Some next
      → AreSlots (under (at_key g.key) (ms ++ path_of source start role g below)) next
  slots-through source start role g below ms add inner next plain are slots on e =
      let here = under (at_key g.key) ms in
      let xs = here ++ (own_mention source start role g ∷ []) in
      subst (λ us. AreSlots us next) (under-all source start role g below ms)
      (on xs inner next (of_own source start role g ms plain are)
      (subst (λ ks. AreSlotsOf (spanned_in mode) xs ks inner) (sym (kept-own source start role g here plain))
      (slots-kept (spanned_in mode) here xs (kept here) inner (λ l. under-own-mention source start role g here (at_key l)) slots))
      e)

  -- a new slot goes last
  pub new-slot : (source : Source) (start : ℕ) (role : Role) (g : Segment) (below ms : List (Mention Source)) (n : Node) (ss : Slots)
      → is_header_role role ≡ false → AreOfTable ms → own below ≡ [] → first_of_key g.key (kept ms) ≡ None → AreSlots ms ss
      → IsSlotNode (spanned_in mode) (ms ++ path_of source start role g below) (mention_of source start (to_key [] g.key) role g) n
      → AreSlots (ms ++ path_of source start role g below)
      (with_slot ss (key_at (spanned_in mode) (mention_of source start (to_key [] g.key) role g)) n)
  new-slot source start role g below ms n ss plain are none new slots node =
      let m = mention_of source start (to_key [] g.key) role g in
      let all = ms ++ path_of source start role g below in
      subst (λ ks. AreSlotsOf (spanned_in mode) all ks (with_slot ss (key_at (spanned_in mode) m) n))
      (sym (kept-new source start role g below ms are.named plain none new))
      (slots-add (spanned_in mode) all (kept ms) m n ss (slots-same (spanned_in mode) ms all (kept ms) g.key ss
      (under-others source start role g below ms) new slots) node)

  -- a slot that is there gets another item
  pub old-slot : (source : Source) (start : ℕ) (role : Role) (g : Segment) (below ms : List (Mention Source)) (j : Mention Source)
      (n : Node) (ss : Slots)
      → is_header_role role ≡ false → AreOfTable ms → own below ≡ [] → first_of_key g.key (kept ms) ≡ Some j → AreSlots ms ss
      → IsSlotNode (spanned_in mode) (ms ++ path_of source start role g below) j n
      → AreSlots (ms ++ path_of source start role g below) (with_node g.key n ss)
  old-slot source start role g below ms j n ss plain are none old slots node =
      let all = ms ++ path_of source start role g below in
      subst (λ ks. AreSlotsOf (spanned_in mode) all ks (with_node g.key n ss))
      (sym (kept-old source start role g below ms j are.named plain none old))
      (slots-change (spanned_in mode) ms all (kept ms) g.key j n ss (under-others source start role g below ms)
      (one_slot ms are.named are.one_header) old node slots)
