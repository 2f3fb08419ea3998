-- What a proof unfolds to compute a log and its text on inputs that are written out.
use Rattle.std.specs.{Prelude.⊤, Fmt.digits}
use Rattle.aeth_app.specs.Rates.{need_of}
use Rattle.aeth_group.specs.Groups.{group_count, group_of, is_chained}
use Rattle.aeth_group.specs.Members.{groups_of}
use Rattle.aeth_header.specs.Header.{fields_of, word_of}
use Rattle.aeth_server.specs.{Latency.latency_of, PrivateServer.counts, PrivateServer.history}
use Rattle.aeth_server.specs.{SlotCycles.nth_slot}
use Rattle.aeth_text.specs.Spelling.{side_word}
use Rattle.aeth_report.specs.LogText.{drop_line, head_line, landing_line, link_line, outside_line}
use Rattle.aeth_report.specs.LogText.{session_line, state_word, text_of}
use Rattle.aeth_chain.specs.ChainText.{bound_line, left_line}

unfoldable pub on_literals : ⊤
unfolding groups_of group_of group_count is_chained need_of latency_of nth_slot history counts
    word_of fields_of digits side_word text_of head_line session_line landing_line drop_line outside_line link_line state_word
    bound_line left_line
on_literals = tt
