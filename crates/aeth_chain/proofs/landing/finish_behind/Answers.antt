use Rattle.std.proofs.Common.{◌∙◌, ◌*◌, ◌+◌, ap, get_or, max, sym, arith}
use Rattle.aeth_chain.proofs.RunningLemmas.{size-first, start-most, time-most, time-next}
use Rattle.aeth_chain.proofs.landing.finish_behind.Goals as goal

-- Times are small.
pub overflow_add-result : goal.overflow_add-result
overflow_add-result c =
    let size = c.size.ensures.size
    ∙ sym (size-first c.args.running.now.items.now c.args.running.now.shapes.now
    c.index-running-0.result c.requires.running.chain) in
    let most = c.size.ensures.most in
    let time = time-most c.args.running.now c.requires.running c.args.place c.requires.place
    (omega (arith, size, most)) in
    let few = c.requires.running.first.few in
    let early = c.requires.running.first.within c.args.place
    (record { cycle = 0; value = 0 }) c.requires.place in
    let cycles = c.requires.running.cycles in
    let start = start-most c.args.running.now c.requires.running c.args.place c.requires.place
    (get_or c.args.running.now.first.now c.args.place (record { cycle = 0; value = 0 })).cycle
    (omega (arith, early, cycles)) in
    let greater = rw (c.from-offered.ensures, c.from.ensures) at c.max.ensures in
    let finish = c.requires.finish in
    let place = c.requires.place in
    omega (arith, greater, c.from-2.ensures, start, time, finish, most, few, place)

-- By the recursion of finish times.
pub returns : goal.returns
returns c =
    let running = c.args.running.now in
    let size = c.from-2.ensures ∙ c.size.ensures.size
    ∙ sym (size-first c.args.running.now.items.now c.args.running.now.shapes.now
    c.index-running-0.result c.requires.running.chain) in
    let next = time-next c.args.running.now c.requires.running c.args.place c.requires.place
    (record { cycle = 0; value = 0 }) c.args.finish c.requires.finish in
    let greater = rw (c.from-offered.ensures, c.from.ensures) at c.max.ensures in
    ap (λ n. n + c.from-2.result) greater ∙ ap (λ n. max (running.bound.rate
    * ((get_or running.first.now c.args.place (record { cycle = 0; value = 0 })).cycle
    + running.bound.latency)) c.args.finish + n) size ∙ next
