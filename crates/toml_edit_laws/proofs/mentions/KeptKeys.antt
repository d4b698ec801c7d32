-- Each slot of each table of an accepted document is kept from the kept mention of its whole path.
use Rattle.std.proofs.Common.{◌≡◌, refl, sym, ◌∙◌, ap, List, [], ◌∷◌, ◌++◌, Option, Some, None}
use Rattle.std.specs.Prelude.{option_map}
use Rattle.toml_edit_model.specs.Paths.{Path, Mention, Source, all_mentions}
use Rattle.toml_edit_laws.specs.KeptKeys.{under_path, IsKeptOf, KeptKeys}
use Rattle.toml_edit_laws.proofs.common.Each.{all-map}
use Rattle.toml_edit_laws.proofs.mentions.KeptOrder.{HaveOneHeader, under-header}
use Rattle.toml_edit_laws.proofs.mentions.KeptOfPaths.{told, kept-under, kept-mentions}
use Rattle.toml_edit_laws.proofs.mentions.OneHeaderLaws.{document-header}
use Rattle.toml_edit_model.specs.Kept.{kept_mention}
use Rattle.toml_edit_model.specs.TableMentions.{under, kept}

header-along : (p : Path) (ms : List (Mention Source)) → HaveOneHeader ms → HaveOneHeader (under_path p ms)
header-along [] ms h = h
header-along (s ∷ p) ms h = header-along p (under s ms) (under-header s ms h)

kept-along : (p q : Path) (ms : List (Mention Source)) → option_map told (kept_mention (under_path p ms) q)
    ≡ option_map told (kept_mention ms (p ++ q))
kept-along [] q ms = refl
kept-along (s ∷ p) q ms = kept-along p q (under s ms) ∙ kept-under s (p ++ q) ms

kept-of : (ms : List (Mention Source)) (p : Path) (m : Mention Source) → kept_mention (under_path p ms) m.path ≡ Some m → IsKeptOf ms p m
kept-of ms p m h = by_found (kept_mention ms (p ++ m.path)) refl (sym (kept-along p m.path ms) ∙ ap (option_map told) h)
  where
    by_found : (o : Option (Mention Source)) → kept_mention ms (p ++ m.path) ≡ o → option_map told o ≡ Some (told m) → IsKeptOf ms p m
    by_found None e g = absurd cc
    by_found (Some k) e g =
        let same : told k ≡ told m = cc in
        record { mention = k; kept = e; segment = ap (λ t. t.0) same; source = ap (λ t. t.1) same }

pub kept_keys : KeptKeys
kept_keys d accepted p =
    let ms = under_path p (all_mentions d) in
    all-map (λ (m : Mention Source). kept_mention ms m.path ≡ Some m) (IsKeptOf (all_mentions d) p) (kept ms) (kept-of (all_mentions d) p)
    (kept-mentions ms (header-along p (all_mentions d) (document-header d accepted)))
