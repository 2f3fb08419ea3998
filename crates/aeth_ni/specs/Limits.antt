-- The numbers of a network interface.
-- Its sizes: this project's own.
use Rattle.std.proofs.Common.{ℕ}

-- The queue numbers of an interface.
abbrev pub queues_of_interface : ℕ
queues_of_interface = 32

-- The most words that wait in a source queue.
abbrev pub waiting_words : ℕ
waiting_words = 8

-- The greatest count of credits, at which a counter and the owed credits stop.
abbrev pub max_count : ℕ
max_count = 4294967295
