-- What the words of a call ask for.
use Rattle.std.proofs.Common.{◌≡◌, ◌≢◌, ◌≤◌, ◌-◌, ◌∙◌, refl, sym, ap, subst, cond, Bool, true, false, ℕ, List, [], ◌∷◌, ◌++◌, drop, get_or, length, map, take, arith, inl, inr, Option, Some, None, String, Global, string_bytes}
use Rattle.std.proofs.lemmas.Result.{IfErr-weaker, IfOk-weaker}
use Rattle.std.specs.Prelude.{IfErr, IfOk, MatchBool, Result, bytes_eq, codes, if◌then◌else◌, is_none, unwrap_or}
use Rattle.toml_edit_model.specs.Text.{Text}
use Rattle.toml_edit_model.specs.Version.{Version}
use Rattle.toml_edit_files.proofs.OutcomeLaws.{is_false, is_true}
use Rattle.toml_edit_files.proofs.RunLaws.{chosen, chosen_not}
use Rattle.toml_edit_files.proofs.SplitLaws.{mistaken-for}
use Rattle.toml_edit_files.specs.Help.{help_on, topic_of}
use Rattle.toml_edit_files.specs.Edited.{version_by}
use Rattle.toml_edit_files.specs.Requests.{IsNoCommand, IsNoRequest, IsNoneAfter, IsNoneBy, SaysAfter, SaysBy, SaysCommand, SaysNamed, SaysRequest, Shows, asks_help, help_by, is_help, is_version, marked, reading_in}
use Rattle.toml_edit_files.specs.Split.{Words, split_words}
use Rattle.toml_edit_files.specs.Stops.{IsMistaken, reason_of}
use Rattle.toml_edit_files.specs.declared.help.TheConstants.{VERSION}
use Rattle.toml_edit_files.specs.declared.help.Topic.{Topic}
use Rattle.toml_edit_files.specs.declared.stop.Stop.{Stop}
use Rattle.toml_edit_files.specs.declared.words.Command.{Command}
use Rattle.toml_edit_files.specs.declared.words.Command.TheVariants as commands
use Rattle.toml_edit_files.specs.declared.words.Reading.{Reading}

-- ---- how files are read

module _ (r : Reading) (w : Text) (ws : List Text) where
  abbrev after : Option Reading → Reading × List Text
  after o = if is_none o then (r, w ∷ ws) else reading_in (unwrap_or o r) ws

  pub reads-on : (next : Reading) → marked r w ≡ Some next → reading_in r (w ∷ ws) ≡ reading_in next ws
  reads-on next is = ap after is

  pub reads-command : marked r w ≡ None → reading_in r (w ∷ ws) ≡ (r, w ∷ ws)
  reads-command is = ap after is

-- ---- help

shows-none : (c : Command) → Shows None c → ⊥
shows-none (commands.Show s) is = absurd cc
shows-none (commands.Ask q) is = is
shows-none (commands.Edit c es) is = is
shows-none (commands.Check files) is = is
shows-none (commands.Fmt c) is = is

-- no help is on several words
pub help-more : {A : Type 0} (f : A → Text) (words : List A) → 2 ≤ length words → help_by (map f words) ≡ None
help-more f [] long = absurd (omega (arith, long))
help-more f (x ∷ []) long = absurd (omega (arith, long))
help-more f (x ∷ (y ∷ words)) long = refl

module _ (version : Version) (w : Text) (ws : List Text) where
  pub says-help : (c : Command) → is_help w ≡ true → Shows (help_by ws) c → SaysCommand version (w ∷ ws) c
  says-help c is shows = chosen _ _ (is_help w) is shows

  pub none-help : is_help w ≡ true → help_by ws ≡ None → IsNoCommand version (w ∷ ws)
  none-help is none c says = shows-none c (subst (λ o. Shows o c) none (is_true _ _ (is_help w) is says))

  pub says-version : (c : Command) → is_help w ≡ false → is_version w ≡ true → Shows (Some VERSION.now) c → SaysCommand version (w ∷ ws) c
  says-version c unlike is shows = chosen_not _ _ (is_help w) unlike (chosen _ _ (is_version w) is shows)

  module _ (unlike : is_help w ≡ false) (not : is_version w ≡ false) where
    pub says-named : (c : Command) (topic : Topic) → topic_of w ≡ Some topic → SaysAfter version topic ws c → SaysCommand version (w ∷ ws) c
    says-named c topic is says =
        chosen_not _ _ (is_help w) unlike (chosen_not _ _ (is_version w) not (subst (λ o. SaysNamed version o ws c) (sym is) says))

    named-by : (c : Command) → SaysCommand version (w ∷ ws) c → SaysNamed version (topic_of w) ws c
    named-by c says = is_false _ _ (is_version w) not (is_false _ _ (is_help w) unlike says)

    pub none-named : topic_of w ≡ None → IsNoCommand version (w ∷ ws)
    none-named none c says = subst (λ o. SaysNamed version o ws c) none (named-by c says)

    pub none-after : (topic : Topic) → topic_of w ≡ Some topic → IsNoneAfter version topic ws → IsNoCommand version (w ∷ ws)
    none-after topic is none c says = none c (subst (λ o. SaysNamed version o ws c) is (named-by c says))

-- ---- the words after the name of a command

module _ (version : Version) (topic : Topic) (ws : List Text) where
  pub says-about : (c : Command) → asks_help ws ≡ true → Shows (Some (help_on topic)) c → SaysAfter version topic ws c
  says-about c is shows = chosen _ _ (asks_help ws) is shows

  module _ (unlike : asks_help ws ≡ false) where
    pub says-by : (c : Command) (s : Words) → split_words topic ws ≡ Some s → SaysBy version topic s c → SaysAfter version topic ws c
    says-by c s is says = chosen_not _ _ (asks_help ws) unlike (s, is, says)

    pub none-split : split_words topic ws ≡ None → IsNoneAfter version topic ws
    none-split none c says =
        let (s, is, by) = is_false _ _ (asks_help ws) unlike says in let clash : Some s ≡ None = sym is ∙ none in absurd cc

    pub none-by : (s : Words) → split_words topic ws ≡ Some s → IsNoneBy version topic s → IsNoneAfter version topic ws
    none-by s is none c says =
        let (t, at, by) = is_false _ _ (asks_help ws) unlike says in let both : Some t ≡ Some s = sym at ∙ is in
        let same : t ≡ s = cc in none c (subst (λ u. SaysBy version topic u c) same by)

    -- what the reader of one command says of its words
    module _ (s : Words) (split : split_words topic ws ≡ Some s) (named : Topic) (at : topic ≡ named) (r : Result Command Stop) where
      pub after-says : IfOk r (SaysBy version named s) → IfOk r (SaysAfter version topic ws)
      after-says =
          IfOk-weaker r (SaysBy version named s) (SaysAfter version topic ws)
          (λ c h. says-by c s split (subst (λ t. SaysBy version t s c) (sym at) h))

      pub after-stops : IfErr r (λ stop. IsMistaken (IsNoneBy version named s) (reason_of stop))
          → IfErr r (λ stop. IsMistaken (IsNoneAfter version topic ws) (reason_of stop))
      after-stops =
          IfErr-weaker r (λ stop. IsMistaken (IsNoneBy version named s) (reason_of stop))
          (λ stop. IsMistaken (IsNoneAfter version topic ws) (reason_of stop))
          (λ stop h. mistaken-for (IsNoneBy version named s) (IsNoneAfter version topic ws) (reason_of stop)
          (λ none. none-by s split (subst (λ t. IsNoneBy version t s) (sym at) none)) h)

-- ---- requests

module _ (ws : List Text) (reading : Reading) (rest : List Text) (is : (reading, rest) ≡ reading_in (record { strict = false; normal = false }) ws) where
  read : reading ≡ (reading_in (record { strict = false; normal = false }) ws).0
  read = ap (λ p. p.0) is

  left : rest ≡ (reading_in (record { strict = false; normal = false }) ws).1
  left = ap (λ p. p.1) is

  pub says-request : (c : Command) → SaysCommand (version_by reading) rest c → SaysRequest ws (record { reading = reading; command = c })
  says-request c says = (read, subst (λ l. SaysCommand (version_by reading) l c) left says)

  pub no-request : IsNoCommand (version_by reading) rest → IsNoRequest ws
  no-request none q (same, says) =
      none q.command (subst (λ l. SaysCommand (version_by reading) l q.command) (sym left)
      (subst (λ r. SaysCommand (version_by r) (reading_in (record { strict = false; normal = false }) ws).1 q.command) (same ∙ sym read) says))
