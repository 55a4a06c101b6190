-- The facts of an item.
use Rattle.ach_files.specs.declared.facts.ItemFacts.{ItemFacts}
use Rattle.ach_files.specs.declared.incoming.Item.{Item}

abbrev pub item_facts : Item → ItemFacts
item_facts i = i.facts.now
