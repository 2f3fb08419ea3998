use Rattle.std.proofs.Common.{◌∙◌, All, ap, refl, subst, sym}
use Rattle.aeth_schedule.specs.SessionStarts.{session_starts_of}
use Rattle.aeth_running.specs.Network.{NetworkState}
use Rattle.aeth_network.specs.Records.{AreOffered, IsFresh}
use Rattle.aeth_network.proofs.FirstLogs.{starts-first, starts-known, words-offered}
use Rattle.aeth_network.proofs.FirstSessionStarts.{fresh-session_starts}
use Rattle.aeth_network.proofs.beginning.UnloggedNetwork.with_log.Goals as goal

-- The words are those of accepted inputs.
pub first_log-requires-clause-words : goal.first_log-requires-clause-words
first_log-requires-clause-words c =
    subst AreOffered c.requires.words_are (words-offered c.requires.inputs c.requires.of.accepted)

-- Their sessions have their words, and go over known channels.
pub first_log-requires-clause-session_starts : goal.first_log-requires-clause-session_starts
first_log-requires-clause-session_starts c =
    let inputs = c.requires.inputs in
    let starts = c.session_starts.ensures
    ∙ ap (λ (all : NetworkState). all.stimuli.schedule.session_starts) c.self.view_is
    ∙ starts-first inputs _ c.requires.of (sym (ap (λ (all : NetworkState). all.time) c.self.view_is)) in
    rw starts (subst (λ words. All (IsFresh words) (session_starts_of inputs)) c.requires.words_are
    (fresh-session_starts inputs c.requires.of.accepted))

pub first_log-requires-clause-known : goal.first_log-requires-clause-known
first_log-requires-clause-known c =
    let inputs = c.requires.inputs in
    let accepted = c.requires.of.accepted in
    let starts = c.session_starts.ensures
    ∙ ap (λ (all : NetworkState). all.stimuli.schedule.session_starts) c.self.view_is
    ∙ starts-first inputs _ c.requires.of (sym (ap (λ (all : NetworkState). all.time) c.self.view_is)) in
    rw starts (starts-known inputs accepted (c.stimuli_are_stimuli.ensures inputs accepted))

-- With its log it is the network of these inputs.
pub begun-requires : goal.begun-requires
begun-requires c =
    let starts = c.session_starts.ensures
    ∙ ap (λ (all : NetworkState). all.stimuli.schedule.session_starts) c.self.view_is in
    record { inputs = c.requires.inputs; of = rw (c.in_ok-log.ensures, starts) c.requires.of }

pub returns : goal.returns
returns c =
    let starts = c.session_starts.ensures
    ∙ ap (λ (all : NetworkState). all.stimuli.schedule.session_starts) c.self.view_is in
    c.begun.ensures ∙ rw (c.in_ok-log.ensures, starts) refl
