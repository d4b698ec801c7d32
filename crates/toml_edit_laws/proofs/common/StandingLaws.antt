-- Texts that stand in another, and what is cut from it.
use Rattle.std.proofs.Common.{◌≡◌, refl, sym, ◌∙◌, ap, ℕ, ◌+◌, ◌-◌, arith, [], ◌∷◌, ◌++◌, append_assoc, length, take, drop}
use Rattle.std.proofs.lemmas.List.{length-append}
use Rattle.std.proofs.Math.Seq.{drop-append_seam, take-append_seam}
use Rattle.toml_edit_model.specs.Text.{Text}
use Rattle.toml_edit_model.specs.Tree.{owned as owned_text}
use Rattle.toml_edit_model.specs.TreeOf.{span_of}
use Rattle.toml_edit_laws.specs.Standing.{Stands}
use Rattle.toml_edit_laws.proofs.common.Tests.{append-nil}
use Rattle.toml_edit_model.specs.OwnedForm.{cut_out, owned_raw}

pub stands-left : (source : Text) (i : ℕ) (a b : Text) → Stands source i (a ++ b) → Stands source i a
stands-left source i a b h =
    record {
      before = h.before;
      after = b ++ h.after;
      text = h.text ∙ ap (λ x. h.before ++ x) (append_assoc a b h.after);
      place = h.place;
    }

pub stands-right : (source : Text) (i : ℕ) (a b : Text) → Stands source i (a ++ b) → Stands source (i + length a) b
stands-right source i a b h =
    record {
      before = h.before ++ a;
      after = h.after;
      text = h.text ∙ ap (λ x. h.before ++ x) (append_assoc a b h.after) ∙ sym (append_assoc h.before a (b ++ h.after));
      place = ap (λ n. n + length a) h.place ∙ sym (length-append h.before a);
    }

pub stands-whole : (source : Text) → Stands source 0 source
stands-whole source = record { before = []; after = []; text = sym (append-nil source); place = refl }

cut : (before t after : Text) (n : ℕ) → n ≡ length before + length t - length before
    → take n (drop (length before) (before ++ (t ++ after))) ≡ t
cut before t after n e =
    ap (take n) (drop-append_seam before (t ++ after))
    ∙ ap (λ m. take m (t ++ after)) (let f : n ≡ length t = omega arith in f)
    ∙ take-append_seam t after

-- from its first byte up to its end it is cut out
pub cut_out-is : (source : Text) (i : ℕ) (t : Text) → Stands source i t → cut_out source i (i + length t) ≡ t
cut_out-is source i t h =
    ap (λ s. cut_out s i (i + length t)) h.text
    ∙ ap (λ j. cut_out (h.before ++ (t ++ h.after)) j (j + length t)) h.place
    ∙ cut h.before t h.after (length h.before + length t - length h.before) refl

-- its span cuts it
pub cut-is : (source : Text) (i : ℕ) (t : Text) → Stands source i t → owned_raw source (span_of i t) ≡ owned_text t
cut-is source i [] h = refl
cut-is source i (c ∷ t) h = ap owned_text (cut_out-is source i (c ∷ t) h)
