use Rattle.std.proofs.Common.{◌≡◌, take}
use Rattle.aeth_network.specs.{ByNumber.each_by, Logging.followed_by, Logging.gone_by}
use Rattle.aeth_network.proofs.logging.log_followed.Given as goal

-- The sessions so far are counted, and told but for the last of each channel.
abbrev pub invariant-loop-place : goal.invariant-loop-place
invariant-loop-place l = record {
  channels : l.channels ≡ each_by (followed_by l.cycles l.landings (take l.place l.session_starts)
      (take l.place l.replaced)) 0 l.fn.channels;
  gone : l.gone
      ≡ each_by (gone_by (take l.place l.session_starts) (take l.place l.replaced)) 0 l.fn.gone;
}
