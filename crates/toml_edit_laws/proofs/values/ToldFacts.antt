-- The facts that mentions tell, and those of the pairs of an inline table.
use Rattle.std.proofs.Common.{◌≡◌, ℕ, ◌+◌, refl, sym, ap, subst, ◌∙◌, inl, inr, true, List, [], ◌∷◌, ◌++◌, append_assoc, append-nil, length}
use Rattle.std.specs.Prelude.{flat_map}
use Rattle.std.proofs.lemmas.Grind.{flat_map-append}
use Rattle.toml_edit_model.specs.Syntax.{Segment, Value, Pairs, no_pairs, pair, value_text, frame_text, begins_unspaced, ArePairs}
use Rattle.toml_edit_model.specs.Paths.{Step, at_key, Path, to_key, Mention, line_mentions, next_start}
use Rattle.toml_edit_model.specs.Meaning.{Fact, fact, a_table, below_keys, value_facts, pairs_facts}
use Rattle.toml_edit_model.specs.TreeOf.{Form, Entry, entry_of, entries}
use Rattle.toml_edit_laws.proofs.common.Members.{Among, among-left, among-right, among-cases}
use Rattle.toml_edit_laws.proofs.mentions.KeptMentions.{moved, under-has, under-is}
use Rattle.toml_edit_laws.proofs.inline_tables.EntryMentions.{AgreeingMentions}
use Rattle.toml_edit_laws.proofs.values.ValueShown.{slot-for}
use Rattle.toml_edit_model.specs.Roles.{Role, value_role}
use Rattle.toml_edit_model.specs.TableMentions.{under, kept}

-- what a mention of a value tells, and any other
abbrev pub role_facts : Role → Value → Path → List Fact
role_facts value_role v p = value_facts v p
role_facts _ v p = fact p a_table ∷ []

-- what a mention below this path tells
abbrev pub mention_facts : Path → Mention Entry → List Fact
mention_facts p m = role_facts m.role m.source.value (p ++ m.path)

-- ---- the facts of pairs are those that their mentions tell

line-facts : (e : Entry) (i : ℕ) (p q : Path) (s : Segment) (rest : List Segment)
    → below_keys (p ++ q) (s ∷ rest) (value_facts e.value) ≡ flat_map (mention_facts p) (line_mentions e i q (s ∷ rest))
line-facts e i p q s [] =
    ap (value_facts e.value) (append_assoc p q (at_key s.key ∷ [])) ∙ sym (append-nil (value_facts e.value (p ++ to_key q s.key)))
line-facts e i p q s (r ∷ rest) =
    ap (λ x. fact x a_table ∷ below_keys x (r ∷ rest) (value_facts e.value)) (append_assoc p q (at_key s.key ∷ []))
    ∙ ap (λ fs. fact (p ++ to_key q s.key) a_table ∷ fs) (line-facts e (next_start i s) p (to_key q s.key) r rest)

key-facts : (e : Entry) (i : ℕ) (p : Path) (ss : List Segment) → begins_unspaced ss ≡ true
    → below_keys p ss (value_facts e.value) ≡ flat_map (mention_facts p) (line_mentions e i [] ss)
key-facts e i p [] h = absurd cc
key-facts e i p (s ∷ rest) h = ap (λ x. below_keys x (s ∷ rest) (value_facts e.value)) (sym (append-nil p)) ∙ line-facts e i p [] s rest

pub pairs-told : (form : Form) (ps : Pairs) (i : ℕ) (p : Path) → ArePairs ps → pairs_facts ps p
    ≡ flat_map (mention_facts p) (entries form ps i)
pairs-told form no_pairs i p h = refl
pairs-told form (pair f v ps) i p h =
    let own = line_mentions (entry_of form i f v) (i + length f.leading) [] f.path in
    let next = i + length (frame_text f (value_text v)) + 1 in
    ap (λ fs. fs ++ pairs_facts ps p) (key-facts (entry_of form i f v) (i + length f.leading) p f.path h.0.1.begins)
    ∙ ap (λ fs. flat_map (mention_facts p) own ++ fs) (pairs-told form ps next p h.2)
    ∙ sym (flat_map-append (mention_facts p) own (entries form ps next))

-- ---- fact by fact

-- one of the mentions tells the fact
pub record Told (p : Path) (ms : List (Mention Entry)) (f : Fact) : Type 0 where
  pub mention : Mention Entry
  pub among : Among mention ms
  pub told : Among f (mention_facts p mention)

pub told-of : (p : Path) (ms : List (Mention Entry)) (f : Fact) → Among f (flat_map (mention_facts p) ms) → Told p ms f
told-of p [] f h = elim h [ ]
told-of p (m ∷ ms) f h =
    elim (among-cases f (mention_facts p m) (flat_map (mention_facts p) ms) h) [
      | inl a ↦ record { mention = m; among = inl refl; told = a }
      | inr b ↦ let t = told-of p ms f b in record { mention = t.mention; among = inr t.among; told = t.told }
    ]

facts-among : (p : Path) (ms : List (Mention Entry)) (f : Fact) (m : Mention Entry) → Among m ms → Among f (mention_facts p m)
    → Among f (flat_map (mention_facts p) ms)
facts-among p [] f m a t = elim a [ ]
facts-among p (n ∷ ms) f m (inl e) t =
    among-left f (mention_facts p n) (flat_map (mention_facts p) ms) (subst (λ k. Among f (mention_facts p k)) e t)
facts-among p (n ∷ ms) f m (inr a) t = among-right f (mention_facts p n) (flat_map (mention_facts p) ms) (facts-among p ms f m a t)

pub of-told : (p : Path) (ms : List (Mention Entry)) (f : Fact) → Told p ms f → Among f (flat_map (mention_facts p) ms)
of-told p ms f t = facts-among p ms f t.mention t.among t.told

-- ---- from the slots' keys down

-- a mention below the key of a slot tells the fact
pub record ToldBelow (p : Path) (ms ks : List (Mention Entry)) (f : Fact) : Type 0 where
  pub slot : Mention Entry
  pub kept : Among slot ks
  pub told : Told (to_key p slot.segment.key) (under (at_key slot.segment.key) ms) f

-- the path one step down is the same path
pub step-facts : (p q : Path) (s : Step) (m n : Mention Entry) → m.path ≡ s ∷ q → n ≡ moved m q → mention_facts (p ++ (s ∷ [])) n
    ≡ mention_facts p m
step-facts p q s m n e same =
    ap (mention_facts (p ++ (s ∷ []))) same
    ∙ ap (role_facts m.role m.source.value) (append_assoc p (s ∷ []) q ∙ ap (λ x. p ++ x) (sym e))

-- what is told below a key is told
pub rise : (p : Path) (ms ks : List (Mention Entry)) (f : Fact) → ToldBelow p ms ks f → Told p ms f
rise p ms ks f t =
    let up = under-is (at_key t.slot.segment.key) t.told.mention ms t.told.among in
    record {
      mention = up.mention;
      among = up.among;
      told = subst (Among f) (step-facts p t.told.mention.path (at_key t.slot.segment.key) up.mention t.told.mention up.path up.same)
          t.told.told;
    }

-- what is told of a longer path is told below the key of a slot
pub sink : (p : Path) (ms : List (Mention Entry)) (f : Fact) → AgreeingMentions ms → (m : Mention Entry) (s : Step) (q : Path) → Among m ms
    → m.path ≡ s ∷ q → Among f (mention_facts p m) → ToldBelow p ms (kept ms) f
sink p ms f agree m s q a e t =
    let found = slot-for ms m s q agree a e in
    let path = e ∙ ap (λ x. x ∷ q) found.2 in
    record {
      slot = found.0;
      kept = found.1;
      told =
          record {
            mention = moved m q;
            among = under-has (at_key found.0.segment.key) q m ms a path;
            told = subst (Among f) (sym (step-facts p q (at_key found.0.segment.key) m (moved m q) path refl)) t;
          };
    }
