pub mod PriceListOfCode
