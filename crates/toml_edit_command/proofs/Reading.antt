-- The tree of what was read, and what the words stop.
use Rattle.std.proofs.Common.{◌≡◌, sym, subst, ◌∙◌, Bool, List, inl, inr}
use Rattle.toml_edit_model.specs.Mode.{Mode}
use Rattle.toml_edit_model.specs.Text.{Text}
use Rattle.toml_edit_model.specs.Version.{Version}
use Rattle.toml_edit_model.specs.Syntax.{Document}
use Rattle.toml_edit_model.specs.Accepted.{AcceptedAs, AcceptedIn}
use Rattle.toml_edit_model.specs.Tree.{Tree}
use Rattle.toml_edit_model.specs.TreeOf.{spanned_in, IsTreeOf}
use Rattle.toml_edit_laws.proofs.versions.EarlyPrints.{normal_texts_stay}
use Rattle.toml_edit.specs.Documents.{IsOwnedTreeWith, IsReadingIn}
use Rattle.toml_edit_command.specs.Forms.{MayStopPath, MayStopValue}
use Rattle.toml_edit_command.specs.Steps.{StopsInWords}
use Rattle.toml_edit_command.specs.Words.{Request, IsSet, TakesPath}
use Rattle.toml_edit_words.specs.Spelled.{SpellsPath}
use Rattle.toml_edit_command.specs.Written.{Held, IsHeldOf}
use Rattle.toml_edit_command.specs.declared.error.RunError.{RunError}

-- what is made of a reading of a text, so that it owns its texts
module _ (mode : Mode) (version : Version) (t u : Text) (x : Tree) (kept : Mode) (is_open : Bool) (h : Held) where
  pub read-as : u ≡ t → IsReadingIn mode version t x is_open → kept ≡ mode
      → (h.mode ≡ kept) × (h.is_open ≡ is_open)
      → ((d : Document) → AcceptedAs u d → IsTreeOf (spanned_in kept) d x → IsOwnedTreeWith kept u d h.tree) → IsHeldOf mode version t h
  read-as same within in_mode printed owned =
      let r = within.reading in
      let accepted : AcceptedIn version t r.document = within.accepted r.document r.accepted.0 in
      let own =
      subst (λ v. IsOwnedTreeWith mode v r.document h.tree) same
      (subst (λ m. IsOwnedTreeWith m u r.document h.tree) in_mode
      (owned r.document (subst (λ v. AcceptedAs v r.document) (sym same) r.accepted)
      (subst (λ m. IsTreeOf (spanned_in m) r.document x) (sym in_mode) r.tree))) in (
        r.document,
        record {
          read = record {
            accepted = accepted;
            stays = normal_texts_stay mode version t r.document accepted;
            normal = own.normal;
            read = record {
              is_document = r.accepted.0.0;
              accepted = r.accepted.1;
              tree = own.tree;
              made = own.made;
            };
          };
          same_mode = printed.0 ∙ in_mode;
          open_end = printed.1 ∙ within.open_end;
        },
      )

-- PATH, or VALUE, stops what the words say
pub path-stops : (q : Request) (path : Text) (stop : RunError) → TakesPath q.command path → MayStopPath path stop → StopsInWords q stop
path-stops q path stop takes may =
    elim may [
      | inl memory ↦ subst (StopsInWords q) (sym memory) (inr (path, takes))
      | inr bad ↦ subst (StopsInWords q) (sym bad.0) (path, takes, bad.1)
    ]

pub value-stops : (q : Request) (path value : Text) (names : List Text) (stop : RunError) → IsSet q.command path value
    → SpellsPath path names
    → MayStopValue q.version value stop → StopsInWords q stop
value-stops q path value names stop set spelled may =
    elim may [
      | inl memory ↦ subst (StopsInWords q) (sym memory) (inr (path, inr (inl (value, set))))
      | inr bad ↦ subst (StopsInWords q) (sym bad.0) (path, value, names, set, spelled, bad.1)
    ]
