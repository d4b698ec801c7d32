-- The header of a block is printed as its normal header.
use Rattle.std.proofs.Common.{◌≡◌, refl, sym, ◌∙◌, ap, subst, ◌+◌, Bool, true, false, List, [], ◌∷◌, ◌++◌, Option, Some, None}
use Rattle.std.specs.Prelude.{◌&&◌, ◌||◌, not, map, option_map, unwrap_or, if◌then◌else◌}
use Rattle.std.specs.List.{AllByRecursion}
use Rattle.toml_edit_laws.proofs.common.LineEnds.{IsEnd, IsEndedAs, ended}
use Rattle.toml_edit_model.specs.Mode.{Mode, shown_text, line_end, line_newline}
use Rattle.toml_edit_model.specs.Text.{Text, one, is_empty, has_byte, line_feed}
use Rattle.toml_edit_model.specs.Trivia.{IsWhiteSpace}
use Rattle.toml_edit_model.specs.Syntax.{Segment, Header, Statement, key_line, header, IsHeader}
use Rattle.toml_edit_model.specs.Paths.{Path, Mention, Source, header_role_of, path_start}
use Rattle.toml_edit_model.specs.Normal.{is_line, kept_statement, opening_of, closing_of, normal_statement, normal_end}
use Rattle.toml_edit_model.specs.Tree.{Decor, Key, TableFields, shown_prefix, shown_suffix}
use Rattle.toml_edit_model.specs.TreeOf.{owned_in, headed_by, header_fields, statement_leaf}
use Rattle.toml_edit_model.specs.HeaderOrder.{Visit, is_root}
use Rattle.toml_edit_model.specs.Print.{segments, last_leaf, has_header, header_default, header_of, lines_of, Printed, printed_header}
use Rattle.toml_edit_model.specs.Print.{header_statement, header_suffix}
use Rattle.toml_edit_laws.proofs.common.Tests.{or-true}
use Rattle.toml_edit_laws.proofs.common.WhiteSpace.{white-shown}
use Rattle.toml_edit_laws.proofs.common.Members.{Among, all-among}
use Rattle.toml_edit_laws.proofs.mentions.KeptPaths.{segments-bare}
use Rattle.toml_edit_laws.proofs.print_of_read.Blocks.{same-elements}
use Rattle.toml_edit_laws.proofs.print_of_read.Chunks.{Chunk}
use Rattle.toml_edit_laws.proofs.print_of_read.ChunkFacts.{OpensAt, opens_table, opens_element, IsChunk}
use Rattle.toml_edit_laws.proofs.print_of_read.DocumentFacts.{IsRightStatement}
use Rattle.toml_edit_laws.proofs.print_of_read.KeysAlong.{AreAlong, element-along, header-steps, header-along}
use Rattle.toml_edit_laws.proofs.mentions.RoleTests.{is_bracket_role}
use Rattle.toml_edit_laws.proofs.common.Trivia.{end-shown, white-feed}
use Rattle.toml_edit_laws.proofs.print_of_read.Seats.{IsLeafOf, IsKeyPath, IsVisit}
use Rattle.toml_edit_model.specs.Roles.{header_role, array_role, is_array_role}
use Rattle.toml_edit_model.specs.Kept.{kept_mention, unspaced_ends, kept_segment, kept_path}

role-array : (b : Bool) → is_array_role (if b then array_role else header_role) ≡ b
role-array true = refl
role-array false = refl

option-twice : {A B C : Type 0} (f : A → B) (g : B → C) (o : Option A) (b : B) → option_map f o ≡ Some b → option_map (λ a. g (f a)) o
    ≡ Some (g b)
option-twice f g None b h = absurd cc
option-twice f g (Some a) b h = let same : f a ≡ b = cc in ap (λ x. Some (g x)) same

-- the path of the key is that of the header
key-path : (all : List (Mention Source)) (b p : Path) (m : Mention Source) → OpensAt all b m → IsKeyPath (is_array_role m.role) p b → p
    ≡ m.path
key-path all b p m (opens_table role path) h = subst (λ r. IsKeyPath (is_array_role r) p b) role h ∙ sym path
key-path all b p m (opens_element i role e place) h =
    let found : IsKeyPath true p b = subst (λ r. IsKeyPath (is_array_role r) p b) role h in
    (same-elements p m.path found.0 i (sym found.1 ∙ e)).0

module _ (mode : Mode) where
  -- ---- the header

  -- what the parts of a header give
  abbrev made : Bool → Text → Text → List Segment → Bool → Decor → Header
  made lifted before after path is_array decor =
      record {
        leading = (if lifted then before else []) ++ shown_prefix mode (header_default true) decor;
        is_array = is_array;
        opening = if lifted then [] else before;
        path = path;
        closing = if lifted then [] else after;
        trailing = line_end mode (shown_suffix mode [] decor);
      }

  fields-are : (f : TableFields) (s : Source) (t : Statement) (h : Header) (end : Text) → f ≡ header_fields (owned_in mode) s t → t
      ≡ header h end → f ≡ headed_by (owned_in mode) s h end
  fields-are f s t h end e g = e ∙ ap (header_fields (owned_in mode) s) g

  -- the text inside the brackets, from the header that the key is kept from
  pub record IsInside (all : List (Mention Source)) (p : Path) (keys : List Key) (s : Statement) : Type 0 where
    pub before : shown_prefix mode [] (last_leaf keys) ≡ opening_of (kept_statement all p s)
    pub after : shown_suffix mode [] (last_leaf keys) ≡ closing_of (kept_statement all p s)
    pub white : IsWhiteSpace (opening_of (kept_statement all p s))

  leaf-inside : (all : List (Mention Source)) (p : Path) (keys : List Key) (s : Statement)
      → AllByRecursion (λ m. IsRightStatement m.source.statement) all
      → ((m : Mention Source) → Among m all → is_bracket_role m.role ≡ true → is_line m.source.statement ≡ false) → IsLeafOf mode all p keys
      → IsInside all p keys s
  leaf-inside all p keys s right heads leaf =
      by_statement leaf.source.statement refl
      (subst (λ (x : Source). IsRightStatement x.statement) leaf.source_is
      (all-among (λ (m : Mention Source). IsRightStatement m.source.statement) leaf.mention all right leaf.among))
      (sym (ap (λ (x : Source). is_line x.statement) leaf.source_is) ∙ heads leaf.mention leaf.among leaf.opens)
    where
      kept_is : kept_statement all p s ≡ leaf.source.statement
      kept_is = ap (λ o. unwrap_or o s) (option-twice (λ (m : Mention Source). m.source) (λ (x : Source). x.statement) (kept_mention all p)
          leaf.source leaf.kept_is)

      by_statement : (t : Statement) → leaf.source.statement ≡ t → IsRightStatement leaf.source.statement → is_line leaf.source.statement
          ≡ false → IsInside all p keys s
      by_statement (key_line f v end) e r l = (let clash : true ≡ false = sym (ap is_line e) ∙ l in absurd cc)
      by_statement (header h end) e r l =
          let ok : IsHeader h = (subst IsRightStatement e r).0 in
          let own : kept_statement all p s ≡ header h end = kept_is ∙ e in
          let leaf_is : last_leaf keys ≡ statement_leaf (owned_in mode) leaf.source (header h end) = leaf.is
          ∙ ap (statement_leaf (owned_in mode) leaf.source) e in
          record {
            before = ap (shown_prefix mode []) leaf_is ∙ white-shown mode h.opening ok.0.opening ∙ sym (ap opening_of own);
            after = ap (shown_suffix mode []) leaf_is ∙ white-shown mode h.closing ok.0.closing ∙ sym (ap closing_of own);
            white = subst (λ x. IsWhiteSpace (opening_of x)) (sym own) ok.0.opening;
          }

  -- and the keys are those along it
  along-path : (all : List (Mention Source)) (b : Path) (m : Mention Source) (ks : List Key) → OpensAt all b m → AreAlong mode all [] b ks
      → AreAlong mode all [] m.path ks
  along-path all b m ks (opens_table role path) h = subst (λ p. AreAlong mode all [] p ks) (sym path) h
  along-path all b m ks (opens_element i role e place) h =
      element-along mode all [] m.path ks i (subst (λ p. AreAlong mode all [] p ks) e h)

  -- The header of a block's table is printed as the normal header.
  pub header-printed : (all : List (Mention Source)) (ch : Chunk) (v : Visit) (is : IsChunk all ch)
      → IsVisit mode all ch.block is.last.role is.last.source v
      → AllByRecursion (λ m. IsRightStatement m.source.statement) all
      → ((m : Mention Source) → Among m all → is_bracket_role m.role ≡ true → is_line m.source.statement ≡ false)
      → IsHeader is.header_is × IsEnd is.end → is_root v ≡ false
      → map (λ (p : Printed). p.statement) (printed_header mode true v) ≡ one (normal_statement mode all ch.head ch.head.source.statement)
  header-printed all ch v is visit right heads ok root =
      ap (λ b. map (λ (p : Printed). p.statement) (if b then record {
        block = v.path;
        path = v.path;
        statement =
            header_statement mode true v;
      } ∷ [] else [])) shown
      ∙ ap (λ x. one (header x (line_newline mode (header_suffix mode v)))) header_is
      ∙ ap (λ e. one (header normal_header e)) newline_is
      ∙ ap one (sym (ap (normal_statement mode all ch.head) is.statement))
    where
      h : Header
      h = is.header_is

      s : Statement
      s = header h is.end

      fields : v.fields ≡ headed_by (owned_in mode) is.last.source h is.end
      fields = fields-are v.fields is.last.source is.last.source.statement h is.end visit.fields
          (ap (λ (x : Source). x.statement) is.last_source ∙ is.statement)

      shown : has_header mode v ≡ true
      shown =
          ap (λ b. not b && (v.is_element || not (v.fields.is_implicit && is_empty (lines_of mode v)))) root
          ∙ ap (λ (f : TableFields). v.is_element || not (f.is_implicit && is_empty (lines_of mode v))) fields
          ∙ or-true v.is_element

      inside : IsInside all ch.head.source.path v.keys s
      inside =
          subst (λ p. IsInside all p v.keys s) (key-path all ch.block visit.key_path is.last is.opens visit.key_path_is ∙ is.last_path)
          (leaf-inside all visit.key_path v.keys s right heads visit.leaf)

      own : Statement
      own = kept_statement all ch.head.source.path s

      low : has_byte line_feed (shown_prefix mode [] (last_leaf v.keys)) ≡ false
      low = ap (has_byte line_feed) inside.before ∙ white-feed (opening_of own) inside.white

      keys : segments mode v.keys ≡ kept_path all ch.head.mentions
      keys =
          segments-bare mode v.keys
          ∙ ap unspaced_ends
          (sym
          (ap (map (kept_segment all)) is.mentions
          ∙ header-along mode all ch.head.source is.arrays (header_role_of h) (ch.head.source.start
          + path_start (header h is.end)) [] h.path v.keys
          (subst (λ p. AreAlong mode all [] p v.keys) (is.last_path ∙ is.path
          ∙ header-steps is.arrays [] h.path) (along-path all ch.block is.last v.keys is.opens visit.along))))

      element : v.is_element ≡ h.is_array
      element = visit.element ∙ ap is_array_role is.last_role ∙ role-array h.is_array

      normal_header : Header
      normal_header =
          record {
            leading = shown_text mode h.leading;
            is_array = h.is_array;
            opening = opening_of own;
            path = kept_path all ch.head.mentions;
            closing = closing_of own;
            trailing = h.trailing;
          }

      ends : IsEndedAs mode h.trailing is.end
      ends = ended mode h.trailing is.end ok.0.0.trailing ok.1

      newline_is : line_newline mode (header_suffix mode v) ≡ normal_end mode is.end
      newline_is = ap (λ (f : TableFields). line_newline mode (shown_suffix mode [] f.decor)) fields ∙ ends.newline

      header_is : header_of mode true v ≡ normal_header
      header_is =
          ap (λ b. made b (shown_prefix mode [] (last_leaf v.keys)) (shown_suffix mode [] (last_leaf v.keys)) (segments mode v.keys)
          v.is_element v.fields.decor) low
          ∙ ap (λ t. made false t (shown_suffix mode [] (last_leaf v.keys)) (segments mode v.keys) v.is_element v.fields.decor)
          inside.before
          ∙ ap (λ t. made false (opening_of own) t (segments mode v.keys) v.is_element v.fields.decor) inside.after
          ∙ ap (λ p. made false (opening_of own) (closing_of own) p v.is_element v.fields.decor) keys
          ∙ ap (λ b. made false (opening_of own) (closing_of own) (kept_path all ch.head.mentions) b v.fields.decor) element
          ∙ ap (λ (f : TableFields). made false (opening_of own) (closing_of own) (kept_path all ch.head.mentions) h.is_array f.decor)
          fields
          ∙ ap
          (λ t.
          record {
            leading = shown_text mode h.leading;
            is_array = h.is_array;
            opening = opening_of own;
            path = kept_path all ch.head.mentions;
            closing = closing_of own;
            trailing = t;
          }) (ends.trailing ∙ end-shown mode h.trailing ok.0.0.trailing)
