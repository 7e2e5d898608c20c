use Rattle.std.proofs.Common.{refl}
use Rattle.scm_record.specs.declared.live.Turn.TheVariants as turns
use Rattle.scm_open_session.specs.declared.open_session.Stage.TheVariants.{Accepted}
use Rattle.scm_open_session.proofs.StepLemmas.{come-to, layer-begins, session-begins, starts-here, steps-come, views-start}
use Rattle.scm_open_session.proofs.laws.calls_are_runs.Goals as goal

pub returns : goal.returns
returns c = record {
  new = λ json width height inner h. session-begins json width height inner h;
  begin = λ kind given stage h. starts-here given kind stage 0 refl h;
  new_layer = λ json width height inner h. layer-begins json width height inner h;
  begin_layer = λ width height given stage h. views-start given width height 0 stage refl h;
  goes_on = λ given kind old new h s. steps-come given kind h s;
  runs = λ given kind stage turn accepted h e.
      let come = come-to given kind stage turn h e in
      (come.calls, c.sessions_are_runs.ensures.all given kind come.calls turn accepted come.path);
  kept = λ given state kind accepted h.
      let come = come-to given kind (Accepted state) (turns.Accepted state) h refl in
      c.sessions_are_runs.ensures.kept given kind come.calls state accepted come.path;
}
