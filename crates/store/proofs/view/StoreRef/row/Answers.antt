use Rattle.store.proofs.Rows.{lent_row}
use Rattle.store.proofs.view.StoreRef.row.Goals as goal

pub returns-clause-value : goal.returns-clause-value
returns-clause-value c = lent_row c.args.self.fit _ c.requires.within
