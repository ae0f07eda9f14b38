-- All that is proved above the blocks.
use Rattle.law.specs.Joins.{JoinByBits}
use Rattle.law.specs.Changes.{CutKeeps, InsertKeeps, InsertLinks, InsertClients, InsertLengthens, RemoveKeeps, RemoveNoneKeeps, RemoveShortens, RemoveAnswers, PlaceKeeps, PlaceEmptyKeeps, WithdrawKeeps}
use Rattle.law.specs.Runs.{SameFaces, EmptyLawful, OpenKeeps, MakeKeeps, NothingKeeps, PlainMore, RunsLawful}
use Rattle.law.specs.Finds.{IdsOnce, IdCounted, IdFound, IdPlaced, LinksCounted, FacesWhole, FacesLive, FacesLinked, GapSplit, GapAfter}
use Rattle.law.specs.Readings.{RangeBetween, ReadingShown, SlicesRange}
use Rattle.law.specs.Quotes.{QuoteOutside, QuoteReads}

pub record Laws : Type 0 where
  -- A new document obeys the law.
  pub empty_lawful : EmptyLawful
  -- Opening a list keeps the law, and changes no face.
  pub open_keeps : OpenKeeps
  -- So does a making.
  pub make_keeps : MakeKeeps
  -- So does what is nothing in the log: a refused call, a reading.
  pub nothing_keeps : NothingKeeps
  -- A cut keeps the law with the plain document as it was.
  pub cut_keeps : CutKeeps
  -- An insertion whose link set is by the join rule keeps the law.
  pub insert_keeps : InsertKeeps
  -- The join rule gives just the live links whose range, as the list then stands, holds the new block.
  pub insert_links : InsertLinks
  -- The join rule is a union on each side and what the sides have in common.
  pub join_by_bits : JoinByBits
  -- A client that has inserted nothing comes last among the clients; any other stands there already.
  pub insert_clients : InsertClients
  -- A list's visible length grows by the units of a countable content, and by none of another.
  pub insert_lengthens : InsertLengthens
  -- A removal that marks the countable faces of its reach keeps the law.
  pub remove_keeps : RemoveKeeps
  -- A removal of nothing, or from behind the last visible entry, changes no face.
  pub remove_none_keeps : RemoveNoneKeeps
  -- A list's visible length shrinks by n, or by all from i on where there are fewer.
  pub remove_shortens : RemoveShortens
  -- The union of the removed blocks' link sets is the live links that hold a removed entry.
  pub remove_answers : RemoveAnswers
  -- A placing that marks the faces between its gaps keeps the law.
  pub place_keeps : PlaceKeeps
  -- A placing whose gaps meet or cross changes no face.
  pub place_empty_keeps : PlaceEmptyKeeps
  -- A withdrawal that takes its link out of every face keeps the law.
  pub withdraw_keeps : WithdrawKeeps
  -- A log one deed longer makes the plain document one deed further.
  pub plain_more : PlainMore
  -- Whatever faces a run of calls comes to, they obey the law of its log.
  pub runs_lawful : RunsLawful
  -- The law speaks of the faces of each list alone.
  pub same_faces : SameFaces
  -- No id stands twice in a list.
  pub ids_once : IdsOnce
  -- An id of a face is below its client's count.
  pub id_counted : IdCounted
  -- An id below its client's count is one of a face's.
  pub id_found : IdFound
  -- An id's place is that of its face, and its offset there more.
  pub id_placed : IdPlaced
  -- The ones in a face's link set are as many as the live links that hold any id of it.
  pub links_counted : LinksCounted
  -- Each face lies wholly in or wholly out of each live range, and its bit says which.
  pub faces_whole : FacesWhole
  -- A bit that is set stands for a live link of the face's list.
  pub faces_live : FacesLive
  -- So a face's link set is just the live links of its list whose range holds it.
  pub faces_linked : FacesLinked
  -- A gap lies between two faces, or inside one.
  pub gap_split : GapSplit
  -- A walk that counts visible entries finds the gap of a visible index.
  pub gap_after : GapAfter
  -- The range is the part of the list between its gaps.
  pub range_between : RangeBetween
  -- The visible entries of the faces that a link's bit is set in are what its reading gives.
  pub reading_shown : ReadingShown
  -- The slices of the faces between a source's gaps are its range.
  pub slices_range : SlicesRange
  -- A quote refuses a bound just where there is no entry to anchor it at.
  pub quote_outside : QuoteOutside
  -- A quote reads just the visible entries between its bounds.
  pub quote_reads : QuoteReads
