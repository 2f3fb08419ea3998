mod PairLemmas
mod RowLemmas
