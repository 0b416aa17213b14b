use Rattle.rig.proofs.Laws.{refused_line, running_fits, finished_fits, tick_refused, tick_running, tick_finished}
use Rattle.rig.proofs.bachumoi_tick.Goals as goal

pub refusal_number-requires : goal.refusal_number-requires
refusal_number-requires c =
    let a = c.args in
    refused_line a.programme.now a.request.now a.numbers.now a.places.now a.budget a.out.now c.state_in-state.ensures c.tick-ticked.ensures.0 c.in-Refused.is

pub put_state-requires : goal.put_state-requires
put_state-requires c = let w = running_fits c.args.programme.now c.args.request.now c.args.numbers.now c.args.places.now c.args.budget c.args.out.now c.state_in-state.ensures c.tick-ticked.ensures.0 c.in-Running.is in (w.0, w.1)

pub running-requires : goal.running-requires
running-requires c = (running_fits c.args.programme.now c.args.request.now c.args.numbers.now c.args.places.now c.args.budget c.args.out.now c.state_in-state.ensures c.tick-ticked.ensures.0 c.in-Running.is).2

pub put_state-requires-in-Finished : goal.put_state-requires-in-Finished
put_state-requires-in-Finished c = let w = finished_fits c.args.programme.now c.args.request.now c.args.numbers.now c.args.places.now c.args.budget c.args.out.now c.state_in-state.ensures c.tick-ticked.ensures.0 c.in-Finished.is in (w.0, w.1)

pub finished-requires : goal.finished-requires
finished-requires c = let w = finished_fits c.args.programme.now c.args.request.now c.args.numbers.now c.args.places.now c.args.budget c.args.out.now c.state_in-state.ensures c.tick-ticked.ensures.0 c.in-Finished.is in (w.2, w.3)

pub returns-in-Refused : goal.returns-in-Refused
returns-in-Refused c =
    let a = c.args in
    tick_refused a.programme.now a.request.now a.numbers.now a.places.now a.budget a.out.now c.state_in-state.ensures c.tick-ticked.ensures.0 c.tick-ticked.ensures.1 c.in-Refused.is c.refusal_number.ensures

pub returns-in-Running : goal.returns-in-Running
returns-in-Running c =
    let a = c.args in
    tick_running a.programme.now a.request.now a.numbers.now a.places.now a.budget a.out.now c.state_in-state.ensures c.tick-ticked.ensures.0 c.tick-ticked.ensures.1 c.put_state.ensures.0 c.put_state.ensures.1 c.in-Running.is c.running.ensures

pub returns-in-Finished : goal.returns-in-Finished
returns-in-Finished c =
    let a = c.args in
    tick_finished a.programme.now a.request.now a.numbers.now a.places.now a.budget a.out.now c.state_in-state.ensures c.tick-ticked.ensures.0 c.tick-ticked.ensures.1 c.put_state-in-Finished.ensures.0 c.put_state-in-Finished.ensures.1 c.in-Finished.is c.finished.ensures
