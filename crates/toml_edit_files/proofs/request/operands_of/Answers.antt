-- The words are those of one command.
use Rattle.std.proofs.Common.{◌∙◌, map, string_bytes, sym}
use Rattle.std.proofs.lemmas.Result.{IfOk-weaker}
use Rattle.std.specs.Prelude.{◌≡◌, None, Some}
use Rattle.toml_edit_files.specs.Edited.{version_by}
use Rattle.toml_edit_files.specs.Help.{help_on}
use Rattle.toml_edit_files.specs.Requests.{IsNoneAfter, SaysAfter, Shows}
use Rattle.toml_edit_files.specs.Split.{split_of, split_words}
use Rattle.toml_edit_files.specs.Stops.{IsMistaken, reason_of}
use Rattle.toml_edit_files.specs.declared.help.Topic.TheVariants as topics
use Rattle.toml_edit_files.proofs.OperandLaws.{of-program}
use Rattle.toml_edit_files.proofs.RequestLaws.{after-says, after-stops, none-by, none-split, says-about}
use Rattle.toml_edit_files.proofs.SplitLaws.{by-memory, by-mistake, mistaken-for}
use Rattle.toml_edit_files.proofs.StopLaws.{passed}
use Rattle.toml_edit_files.proofs.request.operands_of.Goals as goal

pub returns-then-asks_help-clause-says : goal.returns-then-asks_help-clause-says
returns-then-asks_help-clause-says c =
    let v = version_by c.args.reading in let ws = map string_bytes c.args.words.now in let topic = c.args.topic in
    IfOk-weaker c.help_about.result (Shows (Some (help_on topic))) (SaysAfter v topic ws)
    (λ cmd shows. says-about v topic ws cmd (sym c.asks_help.ensures ∙ c.if-asks_help.true) shows) c.help_about.ensures.shows

pub returns-then-asks_help-clause-stops : goal.returns-then-asks_help-clause-stops
returns-then-asks_help-clause-stops c =
    by-memory (IsNoneAfter (version_by c.args.reading) c.args.topic (map string_bytes c.args.words.now)) c.help_about.result c.help_about.ensures.memory

pub returns-in_err-words-clause-stops : goal.returns-in_err-words-clause-stops
returns-in_err-words-clause-stops c =
    let v = version_by c.args.reading in let ws = map string_bytes c.args.words.now in let topic = c.args.topic in
    let stop = c.in_err-words.field-0.0 in
    passed c.from_residual.result stop (λ s. IsMistaken (IsNoneAfter v topic ws) (reason_of s)) c.from_residual.ensures.1
    (mistaken-for (split_words topic ws ≡ None) (IsNoneAfter v topic ws) (reason_of stop)
    (none-split v topic ws (sym c.asks_help.ensures ∙ c.if-asks_help.false)) c.in_err-words.ensures.stops)

pub returns-in-Get-clause-says : goal.returns-in-Get-clause-says
returns-in-Get-clause-says c =
    after-says (version_by c.args.reading) c.args.topic (map string_bytes c.args.words.now) (sym c.asks_help.ensures ∙ c.if-asks_help.false)
    (split_of c.in_ok-words.words) c.in_ok-words.ensures.split topics.Get c.in-Get.is c.get_of.result
    (c.get_of.ensures.says (version_by c.args.reading))

pub returns-in-Get-clause-stops : goal.returns-in-Get-clause-stops
returns-in-Get-clause-stops c =
    after-stops (version_by c.args.reading) c.args.topic (map string_bytes c.args.words.now) (sym c.asks_help.ensures ∙ c.if-asks_help.false)
    (split_of c.in_ok-words.words) c.in_ok-words.ensures.split topics.Get c.in-Get.is c.get_of.result
    (c.get_of.ensures.stops (version_by c.args.reading))

pub returns-in-Has-clause-says : goal.returns-in-Has-clause-says
returns-in-Has-clause-says c =
    after-says (version_by c.args.reading) c.args.topic (map string_bytes c.args.words.now) (sym c.asks_help.ensures ∙ c.if-asks_help.false)
    (split_of c.in_ok-words.words) c.in_ok-words.ensures.split topics.Has c.in-Has.is c.has_of.result
    (c.has_of.ensures.says (version_by c.args.reading))

pub returns-in-Has-clause-stops : goal.returns-in-Has-clause-stops
returns-in-Has-clause-stops c =
    after-stops (version_by c.args.reading) c.args.topic (map string_bytes c.args.words.now) (sym c.asks_help.ensures ∙ c.if-asks_help.false)
    (split_of c.in_ok-words.words) c.in_ok-words.ensures.split topics.Has c.in-Has.is c.has_of.result
    (c.has_of.ensures.stops (version_by c.args.reading))

pub returns-in-Keys-clause-says : goal.returns-in-Keys-clause-says
returns-in-Keys-clause-says c =
    after-says (version_by c.args.reading) c.args.topic (map string_bytes c.args.words.now) (sym c.asks_help.ensures ∙ c.if-asks_help.false)
    (split_of c.in_ok-words.words) c.in_ok-words.ensures.split topics.Keys c.in-Keys.is c.keys_of.result
    (c.keys_of.ensures.says (version_by c.args.reading))

pub returns-in-Keys-clause-stops : goal.returns-in-Keys-clause-stops
returns-in-Keys-clause-stops c =
    after-stops (version_by c.args.reading) c.args.topic (map string_bytes c.args.words.now) (sym c.asks_help.ensures ∙ c.if-asks_help.false)
    (split_of c.in_ok-words.words) c.in_ok-words.ensures.split topics.Keys c.in-Keys.is c.keys_of.result
    (c.keys_of.ensures.stops (version_by c.args.reading))

pub returns-in-Json-clause-says : goal.returns-in-Json-clause-says
returns-in-Json-clause-says c =
    after-says (version_by c.args.reading) c.args.topic (map string_bytes c.args.words.now) (sym c.asks_help.ensures ∙ c.if-asks_help.false)
    (split_of c.in_ok-words.words) c.in_ok-words.ensures.split topics.Json c.in-Json.is c.json_of.result
    (c.json_of.ensures.says (version_by c.args.reading))

pub returns-in-Json-clause-stops : goal.returns-in-Json-clause-stops
returns-in-Json-clause-stops c =
    after-stops (version_by c.args.reading) c.args.topic (map string_bytes c.args.words.now) (sym c.asks_help.ensures ∙ c.if-asks_help.false)
    (split_of c.in_ok-words.words) c.in_ok-words.ensures.split topics.Json c.in-Json.is c.json_of.result
    (c.json_of.ensures.stops (version_by c.args.reading))

pub returns-in-Edit-clause-says : goal.returns-in-Edit-clause-says
returns-in-Edit-clause-says c =
    after-says (version_by c.args.reading) c.args.topic (map string_bytes c.args.words.now) (sym c.asks_help.ensures ∙ c.if-asks_help.false)
    (split_of c.in_ok-words.words) c.in_ok-words.ensures.split topics.Edit c.in-Edit.is c.edit_of.result
    c.edit_of.ensures.says

pub returns-in-Edit-clause-stops : goal.returns-in-Edit-clause-stops
returns-in-Edit-clause-stops c =
    after-stops (version_by c.args.reading) c.args.topic (map string_bytes c.args.words.now) (sym c.asks_help.ensures ∙ c.if-asks_help.false)
    (split_of c.in_ok-words.words) c.in_ok-words.ensures.split topics.Edit c.in-Edit.is c.edit_of.result
    c.edit_of.ensures.stops

pub returns-in-Check-clause-says : goal.returns-in-Check-clause-says
returns-in-Check-clause-says c =
    after-says (version_by c.args.reading) c.args.topic (map string_bytes c.args.words.now) (sym c.asks_help.ensures ∙ c.if-asks_help.false)
    (split_of c.in_ok-words.words) c.in_ok-words.ensures.split topics.Check c.in-Check.is c.check_of.result
    (c.check_of.ensures.says (version_by c.args.reading))

pub returns-in-Check-clause-stops : goal.returns-in-Check-clause-stops
returns-in-Check-clause-stops c =
    after-stops (version_by c.args.reading) c.args.topic (map string_bytes c.args.words.now) (sym c.asks_help.ensures ∙ c.if-asks_help.false)
    (split_of c.in_ok-words.words) c.in_ok-words.ensures.split topics.Check c.in-Check.is c.check_of.result
    (c.check_of.ensures.stops (version_by c.args.reading))

pub returns-in-Fmt-clause-says : goal.returns-in-Fmt-clause-says
returns-in-Fmt-clause-says c =
    after-says (version_by c.args.reading) c.args.topic (map string_bytes c.args.words.now) (sym c.asks_help.ensures ∙ c.if-asks_help.false)
    (split_of c.in_ok-words.words) c.in_ok-words.ensures.split topics.Fmt c.in-Fmt.is c.fmt_of.result
    (c.fmt_of.ensures.says (version_by c.args.reading))

pub returns-in-Fmt-clause-stops : goal.returns-in-Fmt-clause-stops
returns-in-Fmt-clause-stops c =
    after-stops (version_by c.args.reading) c.args.topic (map string_bytes c.args.words.now) (sym c.asks_help.ensures ∙ c.if-asks_help.false)
    (split_of c.in_ok-words.words) c.in_ok-words.ensures.split topics.Fmt c.in-Fmt.is c.fmt_of.result
    (c.fmt_of.ensures.stops (version_by c.args.reading))
