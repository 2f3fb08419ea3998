use Rattle.std.proofs.Common.{◌≡◌, ◌≤◌, ◌∙◌, ◌*◌, ℕ, ap, max, sym, arith, slice_index}
use Rattle.aeth_base.specs.Limits.{max_cycles, words_per_flit}
use Rattle.aeth_server.specs.PrivateServer.{accepted}
use Rattle.aeth_server.specs.WordCycles.{crediting_cycle, sending_cycle}
use Rattle.aeth_chain.specs.Lanes.{after, crediting_cycles, server_in}
use Rattle.aeth_chain.proofs.LaneLemmas.{after-most, crediting-most, cycles-count, cycles-room}
use Rattle.aeth_chain.proofs.LaneLemmas.{lane-arrival, lane-count, lane-early, ready-to-go}
use Rattle.aeth_chain.proofs.LaneLemmas.{sending-most}
use Rattle.aeth_chain.proofs.lane.ready.Goals as goal

-- There are as many cycles as words before, and none is late.
pub after-returned-requires-clause-all : goal.after-returned-requires-clause-all
after-returned-requires-clause-all c =
    cycles-count (crediting_cycle (server_in c.args.lane.now) c.args.lane.now.cycles)
    c.args.credited.now c.args.place c.requires.credited

pub after-returned-requires-clause-room : goal.after-returned-requires-clause-room
after-returned-requires-clause-room c =
    cycles-room (crediting_cycle (server_in c.args.lane.now) c.args.lane.now.cycles)
    c.args.credited.now c.args.place c.args.lane.now.cycles c.args.lane.now.shape.back_links
    c.requires.credited (crediting-most c.args.lane.now c.requires.lane) c.requires.lane.most
    c.requires.lane.shape.most_back

pub after-apart-requires-clause-all : goal.after-apart-requires-clause-all
after-apart-requires-clause-all c =
    cycles-count (sending_cycle (server_in c.args.lane.now) c.args.lane.now.cycles)
    c.args.sent.now c.args.place c.requires.sent

pub after-apart-requires-clause-room : goal.after-apart-requires-clause-room
after-apart-requires-clause-room c =
    cycles-room (sending_cycle (server_in c.args.lane.now) c.args.lane.now.cycles)
    c.args.sent.now c.args.place c.args.lane.now.cycles 1 c.requires.sent
    (sending-most c.args.lane.now c.requires.lane) c.requires.lane.most (omega arith)

-- It is the greatest of three cycles.
pub returns-clause-ready : goal.returns-clause-ready
returns-clause-ready c =
    let server = server_in c.args.lane.now in
    let first = c.max.ensures ∙ ap (λ n. max n c.after-returned.result)
    (sym (lane-arrival c.args.lane.now c.requires.lane c.args.place _ c.requires.place)) in
    let last = c.max-2.ensures in
    let returned = c.after-returned.ensures
    ∙ ap (λ xs. after xs c.args.place c.args.buffer c.args.lane.now.shape.back_links)
    c.requires.credited
    ∙ ap (λ n. after (crediting_cycles server c.args.lane.now.cycles c.args.place) c.args.place n
    c.args.lane.now.shape.back_links) c.requires.buffer in
    let apart = c.after-apart.ensures
    ∙ ap (λ xs. after xs c.args.place words_per_flit 1) c.requires.sent in
    let count = lane-count c.args.lane.now c.requires.lane in
    ready-to-go server c.args.lane.now.cycles c.args.place c.max-2.result (omega arith)
    (omega (arith, count, c.requires.place))
    (last ∙ ap (λ n. max n c.after-apart.result) first
    ∙ ap (λ n. max (max (slice_index (accepted server) c.args.place) n) c.after-apart.result)
    returned
    ∙ ap (λ n. max (max (slice_index (accepted server) c.args.place)
    (after (crediting_cycles server c.args.lane.now.cycles c.args.place) c.args.place
    server.buffer server.shape.back_path_delay)) n) apart)

-- None of them is late.
pub returns-clause-early : goal.returns-clause-early
returns-clause-early c =
    let server = server_in c.args.lane.now in
    let first = c.max.ensures ∙ ap (λ n. max n c.after-returned.result)
    (sym (lane-arrival c.args.lane.now c.requires.lane c.args.place _ c.requires.place)) in
    let last = c.max-2.ensures in
    let offered = lane-early c.args.lane.now c.requires.lane c.args.place c.requires.place in
    let most = c.requires.lane.most in
    let returned = after-most c.args.credited.now c.args.place c.args.buffer
    c.args.lane.now.shape.back_links (2 * max_cycles)
    (cycles-room (crediting_cycle server c.args.lane.now.cycles) c.args.credited.now c.args.place
    c.args.lane.now.cycles c.args.lane.now.shape.back_links c.requires.credited
    (crediting-most c.args.lane.now c.requires.lane) c.requires.lane.most
    c.requires.lane.shape.most_back) in
    let apart = after-most c.args.sent.now c.args.place words_per_flit 1 (2 * max_cycles)
    (cycles-room (sending_cycle server c.args.lane.now.cycles) c.args.sent.now c.args.place
    c.args.lane.now.cycles 1 c.requires.sent (sending-most c.args.lane.now c.requires.lane)
    c.requires.lane.most (omega arith)) in
    let one = c.after-returned.ensures in
    let other = c.after-apart.ensures in
    max-most _ _ _ _ last
    (max-most _ _ _ _ first (omega (arith, offered, most)) (rw one returned)) (rw other apart)
  where
    max-most : (a b n most : ℕ) → n ≡ max a b → a ≤ most → b ≤ most → n ≤ most
    max-most a b n most is one other = omega arith
