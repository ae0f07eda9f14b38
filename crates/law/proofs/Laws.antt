-- Every theorem, under its name.
use Rattle.law.specs.Laws.{Laws}
use Rattle.law.proofs.Cuts as cuts
use Rattle.law.proofs.Finds as finds
use Rattle.law.proofs.Insertions as insertions
use Rattle.law.proofs.Joins as joins
use Rattle.law.proofs.Placings as placings
use Rattle.law.proofs.Quotes as quotes
use Rattle.law.proofs.Readings as readings
use Rattle.law.proofs.Removals as removals
use Rattle.law.proofs.Runs as runs

pub laws : Laws
laws = record {
  empty_lawful = runs.empty_lawful;
  open_keeps = runs.open_keeps;
  make_keeps = runs.make_keeps;
  nothing_keeps = λ F p law. law;
  cut_keeps = cuts.cut_keeps;
  insert_keeps = insertions.insert_keeps;
  insert_links = insertions.insert_links;
  join_by_bits = joins.join_by_bits;
  insert_clients = insertions.insert_clients;
  insert_lengthens = insertions.insert_lengthens;
  remove_keeps = removals.remove_keeps;
  remove_none_keeps = removals.remove_none_keeps;
  remove_shortens = removals.remove_shortens;
  remove_answers = removals.remove_answers;
  place_keeps = placings.place_keeps;
  place_empty_keeps = placings.place_empty_keeps;
  withdraw_keeps = placings.withdraw_keeps;
  plain_more = runs.plain_more;
  runs_lawful = runs.runs_lawful;
  same_faces = runs.same_faces;
  ids_once = finds.ids_once;
  id_counted = finds.id_counted;
  id_found = finds.id_found;
  id_placed = finds.id_placed;
  links_counted = finds.links_counted;
  faces_whole = finds.faces_whole;
  faces_live = finds.faces_live;
  faces_linked = finds.faces_linked;
  gap_split = finds.gap_split;
  gap_after = finds.gap_after;
  range_between = readings.range_between;
  reading_shown = readings.reading_shown;
  slices_range = readings.slices_range;
  quote_outside = quotes.quote_outside;
  quote_reads = quotes.quote_reads;
}
