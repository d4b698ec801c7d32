-- The statements that a command changes of what was read.
use Rattle.std.proofs.Common.{◌≡◌, refl, sym, ap, subst, ◌∙◌, true, List, [], ◌∷◌, ◌++◌, map}
use Rattle.toml_edit_model.specs.Mode.{Mode, plain, exact}
use Rattle.toml_edit_model.specs.Text.{Text}
use Rattle.toml_edit_model.specs.Version.{Version}
use Rattle.toml_edit_model.specs.Syntax.{Document}
use Rattle.toml_edit_model.specs.Paths.{to_key}
use Rattle.toml_edit_model.specs.HeaderOrder.{Visit}
use Rattle.toml_edit_model.specs.Keys.{names as names_of, new_key}
use Rattle.toml_edit_model.specs.Tree.{Node, Tree}
use Rattle.toml_edit_model.specs.Normal.{has_open_end}
use Rattle.toml_edit_model.specs.Print.{print_in}
use Rattle.toml_edit_laws.specs.Locality.{is_plain_value}
use Rattle.toml_edit_edit_laws.specs.Commands.{Answer, done, set_at, remove_at}
use Rattle.toml_edit_edit_laws.specs.CommandLaws.{IsRead, NamesTable, ChangesStatement, AddsStatement, DropsStatements, made_below}
use Rattle.toml_edit_edit_laws.proofs.commands.Setting.{done-is, set_changes, set_adds}
use Rattle.toml_edit_edit_laws.proofs.commands.Removing.{remove_drops, remove_element_drops, remove_changes}
use Rattle.toml_edit_edit_laws.proofs.commands.Filled.{read_has_no_placeholders}
use Rattle.toml_edit_laws.proofs.print_of_read.PrintOfRead.{print_normal}
use Rattle.toml_edit.specs.Documents.{opens}
use Rattle.toml_edit_command.specs.Edits.{Sets, Removes, DropsInside, set_names}
use Rattle.toml_edit_command.specs.Words.{Action, printing, getting, setting, removing, Request, Says}
use Rattle.toml_edit_command.specs.Written.{Held, IsHeldAs, IsPrintFor, IsPrintOf, Makes, Writes}
use Rattle.toml_edit_command.proofs.Spelled.{spelled-plain}

-- a command at one path has one answer
one-answer : {A : Type 0} (at : A → Answer Tree) (names path : A) (u w : Tree) → names ≡ path → at names ≡ done u → at path ≡ done w → w
    ≡ u
one-answer at names path u w same is other = done-is w u (sym other ∙ ap at (sym same) ∙ is)

-- the keys of names, in default spelling
made-join : (path more : List Text) → map new_key (path ++ more) ≡ map new_key path ++ map new_key more
made-join [] more = refl
made-join (k ∷ path) more = ap (λ ks. new_key k ∷ ks) (made-join path more)

made-names : (path : List Text) → names_of (map new_key path) ≡ path
made-names [] = refl
made-names (k ∷ path) = ap (λ ks. k ∷ ks) (made-names path)

module _ (mode : Mode) (d : Document) (t u : Tree) (names : List Text) (read : IsRead mode d t) where
  made-named : (path : List Text) (v : Visit) → NamesTable t path v → NamesTable t (names_of (map new_key path)) v
  made-named path v way = subst (λ p. NamesTable t p v) (sym (made-names path)) way

  pub sets : (n : Node) → is_plain_value n ≡ true → set_names names n t ≡ done u → Sets mode d t u names n
  sets n plain_value is =
      record {
        done = is;
        changes = λ path v k inner same way l old m found kind here.
            let law = set_changes mode d t (map new_key path) v (new_key k) l old (map new_key inner) n m read (made-named path v way) found
            kind plain_value here in
            subst (λ w. ChangesStatement mode d t w (to_key v.path l.name) old m)
            (one-answer (λ p. set_at p n t) (map new_key names) _ u law.0 (ap (map new_key) same ∙ made-join path (k ∷ inner)) is law.1)
            law.2;
        adds = λ path v k more same way absent block.
            let law = set_adds mode d t (map new_key path) v (new_key k) (map new_key more) n read (made-named path v way) absent
            plain_value block in
            subst (λ w. AddsStatement mode d t w v (new_key k) (made_below (map new_key more) n))
            (one-answer (λ p. set_at p n t) (map new_key names) _ u law.0 (ap (map new_key) same ∙ made-join path (k ∷ more)) is law.1)
            law.2;
      }

  inside-removed : remove_at names t ≡ done u → DropsInside mode d t u names
  inside-removed is path v k [] same way l old m found kind here = absurd cc
  inside-removed is path v k (x ∷ inner) same way l old m found kind here =
      let law = remove_changes mode d t path v k l old x inner m read way found kind here in
      subst (λ w. ChangesStatement mode d t w (to_key v.path l.name) old m)
      (one-answer (λ p. remove_at p t) names (path ++ (k ∷ x ∷ inner)) u law.0 same is law.1) law.2

  pub removes : remove_at names t ≡ done u → Removes mode d t u names
  removes is =
      record {
        done = is;
        slot = λ path v k s same way found.
            let law = remove_drops mode d t path v k s read way found (read_has_no_placeholders mode d t path v k s read.tree way found) in
            subst (λ w. DropsStatements mode d t w (to_key v.path s.key.name))
            (one-answer (λ p. remove_at p t) names (path ++ (k ∷ [])) u law.0 same is law.1) law.3;
        element = λ path v w k x i same way number leads.
            let law = remove_element_drops mode d t path v w k x i read way number leads in
            subst (λ y. DropsStatements mode d t y w.path)
            (one-answer (λ p. remove_at p t) names (path ++ (k ∷ x ∷ [])) u law.0 same is law.1) law.2;
        inside = inside-removed is;
      }

-- ---- what is held of what was read

-- the end is open where that of the document is; in the plain mode it makes no difference
print-opens : (mode : Mode) (d : Document) (t : Tree) → print_in mode (opens mode d) t ≡ print_in mode (has_open_end d.statements) t
print-opens plain d t = refl
print-opens exact d t = refl

module _ (mode : Mode) (version : Version) (bytes : Text) (d : Document) (h : Held) (is : IsHeldAs mode version bytes d h) where
  -- it is printed in the mode that was asked for, its end open where that of the document is
  print-read : (u : Tree) (x : Text) → IsPrintFor h u x → IsPrintOf mode (opens mode d) u x
  print-read u x print =
      subst (λ b. IsPrintOf mode b u x) is.open_end (subst (λ m. IsPrintOf m h.is_open u x) is.same_mode print)

  -- What is made of it is what the command writes of what was read.
  pub made-written : (q : Request) (a : Action) → Says q a → (x : Text) → Makes a h x → Writes mode a d h.tree x
  made-written q printing said x made =
      made ∙ ap (λ m. print_in m h.is_open h.tree) is.same_mode ∙ ap (λ b. print_in mode b h.tree) is.open_end ∙ print-opens mode d h.tree
      ∙ print_normal mode d is.read.read.is_document is.read.read.accepted h.tree is.read.read.tree
  made-written q (getting names) said x made = made
  made-written q (setting names n) (path, value, words, spelled, value_spelled) x (u, at, print) =
      (u, sets mode d h.tree u names is.read.read n (spelled-plain q.version value n value_spelled) at, print-read u x print)
  made-written q (removing names) said x (u, at, print) = (u, removes mode d h.tree u names is.read.read at, print-read u x print)
