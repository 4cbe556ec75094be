-- The log of an application is that of the texts of its scripts.
use Rattle.std.proofs.Common.{◌≡◌, ℕ, List, Option, ap, sym, ◌∙◌, subst}
use Rattle.wl_causes.specs.Taking.{with_more, TakesFront}
use Rattle.world_log.specs.Print.{printed_log}
use Rattle.app_manifest.specs.Clauses.{texts_of}
use Rattle.app_manifest.specs.declared.app.App.{App}
use Rattle.app_engine.specs.Applications.{application_of}
use Rattle.app_engine.specs.Log.{Application, log_of}
use Rattle.app_engine.specs.Scripts.{application_spelled}
use Rattle.app_engine.proofs.Spelled.{spelled_is}

pub all_played : (app : App) (before taken : Option (List ℕ)) → taken ≡ with_more (printed_log (log_of (application_of app))) before → taken ≡ with_more (printed_log (log_of (application_spelled (texts_of app)))) before
all_played app before taken e = e ∙ ap (λ (given : Application). with_more (printed_log (log_of given)) before) (sym (spelled_is app))

pub front_played : (app : App) (before taken : Option (List ℕ)) → TakesFront (printed_log (log_of (application_of app))) before taken → TakesFront (printed_log (log_of (application_spelled (texts_of app)))) before taken
front_played app before taken t = subst (λ (given : Application). TakesFront (printed_log (log_of given)) before taken) (sym (spelled_is app)) t
