mod KeyIndexLemmas
mod TieLemmas
