use Rattle.std.proofs.Common.{◌≡◌, ◌+◌, ◌≤◌, ◌++◌, None, replicate, vec_capacity}
use Rattle.cell_chunks.specs.Store.{IsStack}
use Rattle.cell_chunks.proofs.chunks.Chunks.add_chunk.Given as goal

abbrev pub invariant-slots : goal.invariant-slots
invariant-slots g l = record {
  stack : IsStack l.self-inside.places.items l.self-inside.vacant.items;
  places : l.self-inside.places.items ≡ l.initial.self-inside.places.items ++ replicate l.i None;
  room : l.count + 1024 ≤ vec_capacity l.self-inside.places;
  stacked : l.count + 1024 ≤ vec_capacity l.self-inside.vacant;
}
